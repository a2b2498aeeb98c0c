use Rattle.std.proofs.Common.{◌+◌, ◌++◌, ◌∷◌, ap, sym, ◌∙◌, subst, refl}
use Rattle.std.specs.Ordering.{nat_cmp}
use Rattle.std.specs.Cmp.Lexicographic.{slice_cmp}
use Rattle.ty_map.specs.Ascending.{IsAscending}
use Rattle.ty_map.specs.Shape.{Fork, pairs}
use Rattle.ty_map.specs.Nodes.{pair_of, shape_of}
use Rattle.ty_map.specs.steps.Tree.{AtMostFresh}
use Rattle.ty_map.proofs.FreshCounts.{node_same, turned_once_right, turned_twice_right}
use Rattle.ty_map.proofs.Nodes.{sorted_joined, if_ok-map}
use Rattle.ty_map.proofs.Order.{sorted_inner_left, sorted_inner_right, sorted_back}
use Rattle.ty_map.proofs.tree.lean_right.Goals as goal

pub join-requires-clause-sorted : goal.join-requires-clause-sorted
join-requires-clause-sorted c =
    let is = sym c.right.view_is ∙ ap shape_of c.in-Node.is in
    let k = pair_of c.args.pair.value in
    let z = (pairs c.args.left) in
    let s = subst (λ d. IsAscending (z ++ k ∷ (pairs d))) is c.requires.sorted in
    let n = c.in-Node.outer.value in
    let er = ap (λ d. (pairs d)) c.in_ok-copy.ensures ∙ ap (λ x. (pairs x.left)) c.deref-then-height.ensures in
    sorted_joined (ap (λ d. (pairs d)) c.left.view_is) refl er (sorted_inner_left (slice_cmp nat_cmp) z k (pairs n.left) (pair_of n.pair.value) (pairs n.right) s)

pub join-requires-2-clause-sorted : goal.join-requires-2-clause-sorted
join-requires-2-clause-sorted c =
    let is = sym c.right.view_is ∙ ap shape_of c.in-Node.is in
    let k = pair_of c.args.pair.value in
    let z = (pairs c.args.left) in
    let s = subst (λ d. IsAscending (z ++ k ∷ (pairs d))) is c.requires.sorted in
    let n = c.in-Node.outer.value in
    let m = c.in-Node-root.inner.value in
    let mid = ap (λ x. x.left) (sym (c.behind-outer.view_is ∙ c.deref-4.ensures)) ∙ ap shape_of c.in-Node-root.is in
    let s2 = sorted_inner_left (slice_cmp nat_cmp) z k (pairs n.left) (pair_of n.pair.value) (pairs n.right) s in
    let s3 = subst (λ d. IsAscending (z ++ k ∷ (pairs d))) mid s2 in
    let er = ap (λ d. (pairs d)) c.in_ok-copy-3.ensures ∙ ap (λ x. (pairs x.left)) c.deref-5.ensures in
    sorted_joined (ap (λ d. (pairs d)) c.left.view_is) refl er (sorted_inner_left (slice_cmp nat_cmp) z k (pairs m.left) (pair_of m.pair.value) (pairs m.right) s3)

pub join-requires-3-clause-sorted : goal.join-requires-3-clause-sorted
join-requires-3-clause-sorted c =
    let is = sym c.right.view_is ∙ ap shape_of c.in-Node.is in
    let k = pair_of c.args.pair.value in
    let z = (pairs c.args.left) in
    let s = subst (λ d. IsAscending (z ++ k ∷ (pairs d))) is c.requires.sorted in
    let n = c.in-Node.outer.value in
    let m = c.in-Node-root.inner.value in
    let mid = ap (λ x. x.left) (sym (c.behind-outer.view_is ∙ c.deref-4.ensures)) ∙ ap shape_of c.in-Node-root.is in
    let s2 = sorted_back (slice_cmp nat_cmp) z k ((pairs n.left) ++ pair_of n.pair.value ∷ (pairs n.right)) s in
    let s3 = subst (λ d. IsAscending ((pairs d) ++ pair_of n.pair.value ∷ (pairs n.right))) mid s2 in
    let el = ap (λ d. (pairs d)) c.in_ok-copy-4.ensures ∙ ap (λ x. (pairs x.right)) c.deref-6.ensures in
    let ee = c.in_ok-top.ensures ∙ ap (λ x. x.pair.value) c.deref.ensures in
    let er = ap (λ d. (pairs d)) c.in_ok-copy-5.ensures ∙ ap (λ x. (pairs x.right)) c.deref-7.ensures in
    sorted_joined el ee er (sorted_inner_right (slice_cmp nat_cmp) (pairs m.left) (pair_of m.pair.value) (pairs m.right) (pair_of n.pair.value) (pairs n.right) s3)

pub returns-then-height-clause-fresh : goal.returns-then-height-clause-fresh
returns-then-height-clause-fresh c old a b p q =
    let is = sym c.right.view_is ∙ ap shape_of c.in-Node.is in
    let n = c.in-Node.outer.value in
    let k = pair_of c.args.pair.value in
    let z = c.args.left in
    let ey = c.in_ok-copy.ensures ∙ ap (λ x. x.left) c.deref-then-height.ensures in
    let low = c.in_ok-low.ensures ∙ node_same {e = k} c.left.view_is refl ey in
    let ex = c.in_ok-copy-2.ensures ∙ ap (λ x. x.right) c.deref-then-height-2.ensures in
    let ee = ap pair_of (c.in_ok-top.ensures ∙ ap (λ x. x.pair.value) c.deref.ensures) in
    let whole = node_same low ee ex in
    let new = turned_once_right old n.right (pair_of n.pair.value) n.left n.height k z a b p (subst (λ s. AtMostFresh old s b) is q) in
    if_ok-map (λ t h. subst (λ s. AtMostFresh old s (a + b + 3)) (sym (h ∙ whole)) new) c.join-then-height-2.result c.join-then-height-2.ensures

pub returns-clause-fresh : goal.returns-clause-fresh
returns-clause-fresh c old a b p q =
    let is = sym c.right.view_is ∙ ap shape_of c.in-Node.is in
    let n = c.in-Node.outer.value in
    let m = c.in-Node-root.inner.value in
    let k = pair_of c.args.pair.value in
    let z = c.args.left in
    let mid = ap (λ x. x.left) (sym (c.behind-outer.view_is ∙ c.deref-4.ensures)) ∙ ap shape_of c.in-Node-root.is in
    let eu = c.in_ok-copy-3.ensures ∙ ap (λ x. x.left) c.deref-5.ensures in
    let ev = c.in_ok-copy-4.ensures ∙ ap (λ x. x.right) c.deref-6.ensures in
    let ex = c.in_ok-copy-5.ensures ∙ ap (λ x. x.right) c.deref-7.ensures in
    let ee = ap pair_of (c.in_ok-top.ensures ∙ ap (λ x. x.pair.value) c.deref.ensures) in
    let low = c.low.view_is ∙ c.in_ok-low-2.ensures ∙ node_same {e = k} c.left.view_is refl eu in
    let high = c.in_ok-high.ensures ∙ node_same ev ee ex in
    let ei = ap pair_of (c.in_ok-try_clone.ensures ∙ ap (λ x. x.pair.value) c.deref-8.ensures) in
    let whole = node_same low ei high in
    let old_right = subst (λ s. AtMostFresh old (Fork s (pair_of n.pair.value) n.right n.height) b) mid (subst (λ s. AtMostFresh old s b) is q) in
    let new = turned_twice_right old n.right (pair_of n.pair.value) m.left (pair_of m.pair.value) m.right m.height n.height k z a b p old_right in
    if_ok-map (λ t h. subst (λ s. AtMostFresh old s (a + b + 3)) (sym (h ∙ whole)) new) c.join-5.result c.join-5.ensures
