use Rattle.std.proofs.Common.{◌≡◌, ◌+◌, ◌*◌, ℕ, arith, ◌++◌, ◌∷◌, [], ap, sym, ◌∙◌, subst, refl}
use Rattle.std.specs.Ordering.{nat_cmp}
use Rattle.std.specs.Cmp.Lexicographic.{slice_cmp}
use Rattle.ty_map.specs.Ascending.{IsAscending}
use Rattle.ty_map.specs.Shape.{Fork, pairs, height}
use Rattle.ty_map.specs.Nodes.{pair_of, shape_of}
use Rattle.ty_map.specs.steps.Tree.{IsAvl, AtMostFresh}
use Rattle.ty_map.proofs.FreshCounts.{at_most-more, under_left, right_shared}
use Rattle.ty_map.proofs.Nodes.{sorted_joined}
use Rattle.ty_map.proofs.Order.{sorted_back}
use Rattle.ty_map.proofs.tree.Tree.+split_first.Goals as goal

pub balance-requires-clause-sorted : goal.balance-requires-clause-sorted
balance-requires-clause-sorted t c =
    let good = subst IsAvl c.in-Node.is c.self.invariant in
    let n = c.in-Node.node.value in
    let first = pair_of c.in-Some.first.value in
    let found = c.in_ok-split_first-in-Node.ensures.pairs in
    let split : pairs c.deref.result.now.left ≡ first ∷ pairs c.in-Some.left = rw c.in-Some.is at found in
    let whole : pairs n.left ≡ first ∷ pairs c.in-Some.left = ap (λ x. pairs x.left) (sym c.deref.ensures) ∙ split in
    let after = pairs c.in-Some.left ++ pair_of n.pair.value ∷ pairs n.right in
    let ee = c.in_ok-try_clone-in-Some.ensures ∙ ap (λ x. x.pair.value) c.deref-in-Some.ensures in
    let er = ap (λ d. pairs d) c.in_ok-copy-in-Some.ensures ∙ ap (λ x. pairs x.right) c.deref-in-Some-2.ensures in
    sorted_joined {l = pairs c.in-Some.left} refl ee er (sorted_back (slice_cmp nat_cmp) [] first after (subst (λ x. IsAscending (x ++ pair_of n.pair.value ∷ pairs n.right)) whole good.0))

pub returns-in_ok-copy-in-None-clause-fresh : goal.returns-in_ok-copy-in-None-clause-fresh
returns-in_ok-copy-in-None-clause-fresh t c =
    let is = sym c.self.view_is ∙ ap shape_of c.in-Node.is in
    let n = c.in-Node.node.value in
    let e = pair_of n.pair.value in
    let old = Fork n.left e n.right n.height in
    let m : ℕ = 3 * n.height in
    let er = c.in_ok-copy-in-None.ensures ∙ ap (λ x. x.right) c.deref-in-None-2.ensures in
    subst (λ s. AtMostFresh s c.in_ok-copy-in-None.field-0 (3 * height s)) (sym is) (subst (λ x. AtMostFresh old x m) (sym er) (right_shared n.left e n.right n.height m))

pub returns-in_ok-rest-in-Some-clause-fresh : goal.returns-in_ok-rest-in-Some-clause-fresh
returns-in_ok-rest-in-Some-clause-fresh t c =
    let is = sym c.self.view_is ∙ ap shape_of c.in-Node.is in
    let good = subst IsAvl c.in-Node.is c.self.invariant in
    let n = c.in-Node.node.value in
    let e = pair_of n.pair.value in
    let old = Fork n.left e n.right n.height in
    let b : ℕ = 3 * height n.left in
    let found = c.in_ok-split_first-in-Node.ensures.fresh in
    let split : AtMostFresh c.deref.result.now.left c.in-Some.left (3 * height c.deref.result.now.left) = rw c.in-Some.is at found in
    let left_new = subst (λ s. AtMostFresh s c.in-Some.left (3 * height s)) (ap (λ x. x.left) c.deref.ensures) split in
    let er = c.in_ok-copy-in-Some.ensures ∙ ap (λ x. x.right) c.deref-in-Some-2.ensures in
    let right_new = subst (λ s. AtMostFresh old s 0) (sym er) (right_shared n.left e n.right n.height 0) in
    let all = c.in_ok-rest-in-Some.ensures.fresh old b 0 (under_left n.left e n.right n.height c.in-Some.left b left_new) right_new in
    subst (λ s. AtMostFresh s c.in_ok-rest-in-Some.rest (3 * height s)) (sym is)
    (at_most-more old c.in_ok-rest-in-Some.rest (b + 0 + 3) (3 * n.height) (omega (arith, good.1)) all)
