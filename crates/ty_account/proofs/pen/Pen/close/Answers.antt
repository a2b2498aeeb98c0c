use Rattle.std.proofs.Common.{◌≡◌, ◌+◌, ℕ, [], ◌∷◌, ◌++◌, true, false, refl, ap, sym, ◌∙◌}
use Rattle.ty_account.specs.Known.{Known, known, name_of}
use Rattle.ty_account.specs.declared.history.Mark.{Mark}
use Rattle.ty_account.specs.declared.history.Mark.TheVariants.{Closed}
use Rattle.ty_account.specs.steps.Histories.{is_closed, is_legal, word_of, word_for, known_of}
use Rattle.ty_account.proofs.Histories.{word_is, legal_more, word_more, closed_entries}
use Rattle.ty_account.proofs.pen.Pen.close.Goals as goal

pub add-spent-requires-clause-word : goal.add-spent-requires-clause-word
add-spent-requires-clause-word g c = c.word-word.ensures ∙ (ap word_for c.self.invariant.1.2 ∙ sym (word_is c.self.inside.seen.log))

pub of-requires-clause-word : goal.of-requires-clause-word
of-requires-clause-word g c =
    let log = c.self.inside.seen.log in let held = c.self.invariant.1 in
    let is_open : is_closed log ≡ false = ap (λ (k : Known). k.closed) (sym held.2) ∙ held.4 in
    let more = c.add-spent.ensures.seen.2 ∙ ap (λ (m : Mark g.row.T.Denot). log ++ m ∷ []) c.closing-offer.ensures.1 in
    let word = c.word-word.ensures ∙ (ap word_for held.2 ∙ sym (word_is log)) in
    ap (λ (n : ℕ). n + 1) word ∙ (sym (word_more log Closed is_open) ∙ ap word_of (sym more))

pub of-requires-clause-legal : goal.of-requires-clause-legal
of-requires-clause-legal g c =
    let log = c.self.inside.seen.log in let held = c.self.invariant.1 in
    let is_open : is_closed log ≡ false = ap (λ (k : Known). k.closed) (sym held.2) ∙ held.4 in
    let more = c.add-spent.ensures.seen.2 ∙ ap (λ (m : Mark g.row.T.Denot). log ++ m ∷ []) c.closing-offer.ensures.1 in
    ap is_legal more ∙ legal_more log Closed held.3 is_open refl

pub returns : goal.returns
returns g c =
    let log = c.self.inside.seen.log in let held = c.self.invariant.1 in let seen = c.add-spent.ensures.seen in
    let is_open : is_closed log ≡ false = ap (λ (k : Known). k.closed) (sym held.2) ∙ held.4 in
    let more = seen.2 ∙ ap (λ (m : Mark g.row.T.Denot). log ++ m ∷ []) c.closing-offer.ensures.1 in
    let closed = closed_entries log is_open in
    c.of.ensures ∙ ((λ i. known_of (seen.0 i) (seen.1 i) (more i)) ∙ ((λ i. known (name_of c.self.inside.seen.book c.self.inside.seen.names) (closed.0 i) (closed.1 i)) ∙ ap (λ (k : Known). known k.account k.entries true) (sym held.2 ∙ c.self.view_is)))
