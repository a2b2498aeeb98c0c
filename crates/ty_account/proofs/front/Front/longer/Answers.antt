use Rattle.std.proofs.Common.{ap, sym, ◌∙◌, subst, arith, inl, inr, List, ◌≤◌}
use mathlib.Core.List.{IsPrefix}
use Rattle.ty_account.specs.declared.history.Mark.{Mark}
use Rattle.ty_account.specs.Known.{KnowsMore}
use Rattle.ty_account.specs.steps.Histories.{word_of}
use Rattle.ty_account.proofs.Histories.{word_order, knows_more}
use Rattle.ty_account.proofs.front.Front.longer.Given.{Over}
use Rattle.ty_account.proofs.front.Front.longer.Goals as goal

-- where the other's word is greater, it knows more
behind : (g : Over) (c : goal.After-drop-both g) → KnowsMore c.args.self.now c.args.other.now
behind g c =
    let h = c.self.inside.seen.log in
    let k = c.other.inside.seen.log in
    let both = c.learn.new.self.log in
    let this : IsPrefix h both = subst (λ (l : List (Mark g.row.T.Denot)). IsPrefix l both) (ap (λ s. s.log) c.again-both.ensures) c.learn.ensures.2 in
    let less : word_of h ≤ word_of k = omega (arith, c.self.invariant.0, c.other.invariant.0, c.if-self-other.true) in
    let same = ap (λ k. k.account) c.other.view_is ∙ (c.requires ∙ sym (ap (λ k. k.account) c.self.view_is)) in
    rw (← c.self.view_is, ← c.other.view_is) (knows_more _ _ _ _ _ _ same (word_order h k both c.self.invariant.1 c.other.invariant.1 this c.learn.ensures.3 less))

-- else this one knows at least as much
ahead : (g : Over) (c : goal.After-drop-both-2 g) → KnowsMore c.args.other.now c.args.self.now
ahead g c =
    let h = c.self.inside.seen.log in
    let k = c.other.inside.seen.log in
    let both = c.learn.new.self.log in
    let this : IsPrefix h both = subst (λ (l : List (Mark g.row.T.Denot)). IsPrefix l both) (ap (λ s. s.log) c.again-both.ensures) c.learn.ensures.2 in
    let less : word_of k ≤ word_of h = omega (arith, c.self.invariant.0, c.other.invariant.0, c.if-self-other.false) in
    let same = ap (λ k. k.account) c.self.view_is ∙ (sym c.requires ∙ sym (ap (λ k. k.account) c.other.view_is)) in
    rw (← c.self.view_is, ← c.other.view_is) (knows_more _ _ _ _ _ _ same (word_order k h both c.other.invariant.1 c.self.invariant.1 c.learn.ensures.3 this less))

pub returns-then-self-other-clause-this : goal.returns-then-self-other-clause-this
returns-then-self-other-clause-this g c = rw c.front_copy.ensures (behind g c)

pub returns-then-self-other-clause-prefix : goal.returns-then-self-other-clause-prefix
returns-then-self-other-clause-prefix g c = inl (behind g c).begins

pub returns-clause-that : goal.returns-clause-that
returns-clause-that g c = rw c.front_copy-else-self-other.ensures (ahead g c)

pub returns-clause-prefix : goal.returns-clause-prefix
returns-clause-prefix g c = inr (ahead g c).begins
