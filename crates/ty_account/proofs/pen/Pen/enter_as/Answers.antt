use Rattle.std.proofs.Common.{◌≡◌, ◌≤◌, ◌+◌, ◌^◌, ℕ, List, [], ◌∷◌, ◌++◌, length, false, refl, ap, sym, ◌∙◌, subst, arith}
use Rattle.std.proofs.lemmas.List.{length-append}
use denote.RawPtr.{Ptr}
use Rattle.ty_base.specs.declared.entry.Entry.{Entry}
use Rattle.ty_account.specs.Known.{Known, known, name_of}
use Rattle.ty_account.specs.declared.history.Mark.{Mark}
use Rattle.ty_account.specs.declared.history.Mark.TheVariants.{Entered}
use Rattle.ty_account.specs.declared.node.Place.{Place}
use Rattle.ty_account.specs.steps.Histories.{entries_in, is_closed, is_legal, word_of, word_for, next_in, known_of, Ends}
use Rattle.ty_account.proofs.Histories.{word_is, legal_more, word_more, entered_entries}
use Rattle.ty_account.proofs.Steps.{ends_entered}
use Rattle.ty_account.proofs.pen.Pen.enter_as.Goals as goal

pub add-requires-clause-word : goal.add-requires-clause-word
add-requires-clause-word g c = c.word-word.ensures ∙ (ap word_for c.self.invariant.1.2 ∙ sym (word_is c.self.inside.seen.log))

pub of-requires-clause-word : goal.of-requires-clause-word
of-requires-clause-word g c =
    let log = c.self.inside.seen.log in let held = c.self.invariant.1 in
    let is_open : is_closed log ≡ false = ap (λ (k : Known). k.closed) (sym held.2) ∙ held.4 in
    let mark : Mark g.row.T.Denot = Entered (g.E.AsEntry.entry c.args.value.now) c.lend-known.result.0.at c.lend-known.result.0.value in
    let more = c.add.ensures.seen.2 ∙ ap (λ (m : Mark g.row.T.Denot). log ++ m ∷ []) c.entering-offer.ensures.1 in
    let word = c.word-word.ensures ∙ (ap word_for held.2 ∙ sym (word_is log)) in let again = ap (λ s. s.log) c.again.ensures in
    ap (λ (n : ℕ). n + 2) word ∙ (sym (word_more log mark is_open) ∙ ap word_of (sym (again ∙ more)))

pub of-requires-clause-legal : goal.of-requires-clause-legal
of-requires-clause-legal g c =
    let log = c.self.inside.seen.log in let held = c.self.invariant.1 in
    let is_open : is_closed log ≡ false = ap (λ (k : Known). k.closed) (sym held.2) ∙ held.4 in
    let mark : Mark g.row.T.Denot = Entered (g.E.AsEntry.entry c.args.value.now) c.lend-known.result.0.at c.lend-known.result.0.value in
    let more = c.add.ensures.seen.2 ∙ ap (λ (m : Mark g.row.T.Denot). log ++ m ∷ []) c.entering-offer.ensures.1 in
    ap is_legal (ap (λ s. s.log) c.again.ensures ∙ more) ∙ legal_more log mark held.3 is_open refl

pub invariant_of-self : goal.invariant_of-self
invariant_of-self g c =
    let inv = c.self.invariant in let log = c.self.inside.seen.log in let held = inv.1 in let seen = c.add.ensures.seen in
    let is_open : is_closed log ≡ false = ap (λ (k : Known). k.closed) (sym held.2) ∙ held.4 in
    let e : Entry = g.E.AsEntry.entry c.args.value.now in let k = c.lend-known.result.0 in
    let mark : Mark g.row.T.Denot = Entered e k.at k.value in
    let more = seen.2 ∙ ap (λ (m : Mark g.row.T.Denot). log ++ m ∷ []) c.entering-offer.ensures.1 in
    let entered = entered_entries log e k.at k.value is_open in
    let front = c.of.ensures ∙ ap (λ s. known_of s.book s.names s.log) c.again.ensures in
    let holds = ap (λ (p : Place g.row.T.Denot). next_in p.node) (c.lend-known.ensures.known.2 ∙ c.fill-block.ensures.1) in
    let short : length (entries_in log ++ e ∷ []) ≤ 2 ^ 40 = omega (arith, length-append (entries_in log) (e ∷ []), c.requires.room, ap (λ (k : Known). length k.entries) (sym held.2 ∙ c.self.view_is)) in (
      (inv.0.0 ∙ sym seen.0, inv.0.1 ∙ sym seen.1),
      (
        c.add.ensures.right.0 ∙ sym seen.1,
        c.add.ensures.right.1,
        front,
        ap is_legal more ∙ legal_more log mark held.3 is_open refl,
        ap (λ (k : Known). k.closed) front ∙ (ap is_closed more ∙ entered.1),
        omega (arith, short, ap (λ (k : Known). length k.entries) front, ap (λ (l : List (Mark g.row.T.Denot)). length (entries_in l)) more, ap length entered.0),
      ),
      subst (λ (l : List (Mark g.row.T.Denot)). Ends l c.replace-last.new.dest.at) (sym more) (subst (λ (p : Ptr). Ends (log ++ mark ∷ []) p) (holds ∙ (sym c.args.node.there ∙ ap (λ b. b.at) (sym c.replace-last.ensures.after))) (ends_entered log held.3 is_open e k.at k.value)),
    )

pub returns : goal.returns
returns g c =
    let log = c.self.inside.seen.log in let held = c.self.invariant.1 in let seen = c.add.ensures.seen in
    let is_open : is_closed log ≡ false = ap (λ (k : Known). k.closed) (sym held.2) ∙ held.4 in
    let e : Entry = g.E.AsEntry.entry c.args.value.now in let k = c.lend-known.result.0 in
    let more = seen.2 ∙ ap (λ (m : Mark g.row.T.Denot). log ++ m ∷ []) c.entering-offer.ensures.1 in
    let entered = entered_entries log e k.at k.value is_open in
    c.of.ensures ∙ (ap (λ s. known_of s.book s.names s.log) c.again.ensures ∙ (λ i. known_of (seen.0 i) (seen.1 i) (more i)) ∙ ((λ i. known (name_of c.self.inside.seen.book c.self.inside.seen.names) (entered.0 i) (entered.1 i)) ∙ ap (λ (k : Known). known k.account (k.entries ++ e ∷ []) false) (sym held.2 ∙ c.self.view_is)))
