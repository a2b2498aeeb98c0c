use Rattle.std.proofs.Common.{◌+◌, ◌++◌, ◌∷◌, ap, sym, ◌∙◌, subst, refl}
use Rattle.std.specs.Ordering.{nat_cmp}
use Rattle.std.specs.Cmp.Lexicographic.{slice_cmp}
use Rattle.ty_map.specs.Ascending.{IsAscending}
use Rattle.ty_map.specs.Shape.{Fork, pairs}
use Rattle.ty_map.specs.Nodes.{pair_of, shape_of}
use Rattle.ty_map.specs.steps.Tree.{AtMostFresh}
use Rattle.ty_map.proofs.FreshCounts.{node_same, turned_once_left, turned_twice_left}
use Rattle.ty_map.proofs.Nodes.{sorted_joined, if_ok-map}
use Rattle.ty_map.proofs.Order.{sorted_inner_left, sorted_inner_right, sorted_front}
use Rattle.ty_map.proofs.tree.lean_left.Goals as goal

pub join-requires-clause-sorted : goal.join-requires-clause-sorted
join-requires-clause-sorted c =
    let is = sym c.left.view_is ∙ ap shape_of c.in-Node.is in
    let k = pair_of c.args.pair.value in
    let z = (pairs c.args.right) in
    let s = subst (λ d. IsAscending ((pairs d) ++ k ∷ z)) is c.requires.sorted in
    let n = c.in-Node.outer.value in
    let el = ap (λ d. (pairs d)) c.in_ok-copy.ensures ∙ ap (λ x. (pairs x.right)) c.deref-then-height.ensures in
    sorted_joined el refl refl (sorted_inner_right (slice_cmp nat_cmp) (pairs n.left) (pair_of n.pair.value) (pairs n.right) k z s)

pub join-requires-2-clause-sorted : goal.join-requires-2-clause-sorted
join-requires-2-clause-sorted c =
    let is = sym c.left.view_is ∙ ap shape_of c.in-Node.is in
    let k = pair_of c.args.pair.value in
    let z = (pairs c.args.right) in
    let s = subst (λ d. IsAscending ((pairs d) ++ k ∷ z)) is c.requires.sorted in
    let n = c.in-Node.outer.value in
    let m = c.in-Node-root.inner.value in
    let mid = ap (λ x. x.right) (sym (c.behind-outer.view_is ∙ c.deref-4.ensures)) ∙ ap shape_of c.in-Node-root.is in
    let s2 = subst (λ d. IsAscending (((pairs n.left) ++ pair_of n.pair.value ∷ (pairs d)) ++ k ∷ z)) mid s in
    let s3 = sorted_front (slice_cmp nat_cmp) ((pairs n.left) ++ pair_of n.pair.value ∷ ((pairs m.left) ++ pair_of m.pair.value ∷ (pairs m.right))) (k ∷ z) s2 in
    let el = ap (λ d. (pairs d)) c.in_ok-copy-3.ensures ∙ ap (λ x. (pairs x.left)) c.deref-5.ensures in
    let ee = c.in_ok-top.ensures ∙ ap (λ x. x.pair.value) c.deref.ensures in
    let er = ap (λ d. (pairs d)) c.in_ok-copy-4.ensures ∙ ap (λ x. (pairs x.left)) c.deref-6.ensures in
    sorted_joined el ee er (sorted_inner_left (slice_cmp nat_cmp) (pairs n.left) (pair_of n.pair.value) (pairs m.left) (pair_of m.pair.value) (pairs m.right) s3)

pub join-requires-3-clause-sorted : goal.join-requires-3-clause-sorted
join-requires-3-clause-sorted c =
    let is = sym c.left.view_is ∙ ap shape_of c.in-Node.is in
    let k = pair_of c.args.pair.value in
    let z = (pairs c.args.right) in
    let s = subst (λ d. IsAscending ((pairs d) ++ k ∷ z)) is c.requires.sorted in
    let n = c.in-Node.outer.value in
    let m = c.in-Node-root.inner.value in
    let mid = ap (λ x. x.right) (sym (c.behind-outer.view_is ∙ c.deref-4.ensures)) ∙ ap shape_of c.in-Node-root.is in
    let s2 = sorted_inner_right (slice_cmp nat_cmp) (pairs n.left) (pair_of n.pair.value) (pairs n.right) k z s in
    let s3 = subst (λ d. IsAscending ((pairs d) ++ k ∷ z)) mid s2 in
    let el = ap (λ d. (pairs d)) c.in_ok-copy-5.ensures ∙ ap (λ x. (pairs x.right)) c.deref-7.ensures in
    sorted_joined el refl refl (sorted_inner_right (slice_cmp nat_cmp) (pairs m.left) (pair_of m.pair.value) (pairs m.right) k z s3)

pub returns-then-height-clause-fresh : goal.returns-then-height-clause-fresh
returns-then-height-clause-fresh c old a b p q =
    let is = sym c.left.view_is ∙ ap shape_of c.in-Node.is in
    let n = c.in-Node.outer.value in
    let k = pair_of c.args.pair.value in
    let z = c.args.right in
    let ey = c.in_ok-copy.ensures ∙ ap (λ x. x.right) c.deref-then-height.ensures in
    let low = c.in_ok-low.ensures ∙ node_same {e = k} ey refl refl in
    let ex = c.in_ok-copy-2.ensures ∙ ap (λ x. x.left) c.deref-then-height-2.ensures in
    let ee = ap pair_of (c.in_ok-top.ensures ∙ ap (λ x. x.pair.value) c.deref.ensures) in
    let whole = node_same ex ee low in
    let new = turned_once_left old n.left (pair_of n.pair.value) n.right n.height k z a b (subst (λ s. AtMostFresh old s a) is p) q in
    if_ok-map (λ t h. subst (λ s. AtMostFresh old s (a + b + 3)) (sym (h ∙ whole)) new) c.join-then-height.result c.join-then-height.ensures

pub returns-clause-fresh : goal.returns-clause-fresh
returns-clause-fresh c old a b p q =
    let is = sym c.left.view_is ∙ ap shape_of c.in-Node.is in
    let n = c.in-Node.outer.value in
    let m = c.in-Node-root.inner.value in
    let k = pair_of c.args.pair.value in
    let z = c.args.right in
    let mid = ap (λ x. x.right) (sym (c.behind-outer.view_is ∙ c.deref-4.ensures)) ∙ ap shape_of c.in-Node-root.is in
    let el = c.in_ok-copy-3.ensures ∙ ap (λ x. x.left) c.deref-5.ensures in
    let ee = ap pair_of (c.in_ok-top.ensures ∙ ap (λ x. x.pair.value) c.deref.ensures) in
    let eu = c.in_ok-copy-4.ensures ∙ ap (λ x. x.left) c.deref-6.ensures in
    let ev = c.in_ok-copy-5.ensures ∙ ap (λ x. x.right) c.deref-7.ensures in
    let low = c.low-2.view_is ∙ c.in_ok-low-2.ensures ∙ node_same el ee eu in
    let high = c.in_ok-high.ensures ∙ node_same {e = k} ev refl refl in
    let ei = ap pair_of (c.in_ok-try_clone.ensures ∙ ap (λ x. x.pair.value) c.deref-8.ensures) in
    let whole = node_same low ei high in
    let old_left = subst (λ s. AtMostFresh old (Fork n.left (pair_of n.pair.value) s n.height) a) mid (subst (λ s. AtMostFresh old s a) is p) in
    let new = turned_twice_left old n.left (pair_of n.pair.value) m.left (pair_of m.pair.value) m.right m.height n.height k z a b old_left q in
    if_ok-map (λ t h. subst (λ s. AtMostFresh old s (a + b + 3)) (sym (h ∙ whole)) new) c.join-5.result c.join-5.ensures
