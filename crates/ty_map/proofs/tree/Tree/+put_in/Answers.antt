use Rattle.std.proofs.Common.{◌≡◌, ◌+◌, ◌*◌, ℕ, arith, ◌++◌, ◌∷◌, Less, Equal, Greater, ap, sym, ◌∙◌, subst}
use Rattle.std.specs.Prelude.{Some}
use Rattle.std.specs.Ordering.{nat_cmp}
use Rattle.std.specs.Cmp.Lexicographic.{slice_cmp, nat_list_cmp_total}
use Rattle.std.specs.FinMap.{slice_cmp-IsAntisymmetric, nat_cmp-IsAntisymmetric}
use Rattle.ty_base.specs.Feed.{insert, change}
use Rattle.ty_map.specs.Ascending.{IsAscending}
use Rattle.ty_map.specs.Changes.{kind_of, kind_of_put}
use Rattle.ty_map.specs.Shape.{Empty, Fork, pairs, height}
use Rattle.ty_map.specs.Nodes.{pair_of, shape_of}
use Rattle.ty_map.specs.steps.Tree.{IsAvl, IsSound, AtMostFresh, settled}
use Rattle.ty_map.proofs.Alone.{sound_middle, pairs_left, pairs_right, pairs_middle, found_left, found_right, found_middle, fresh_middle, settled_left, settled_right}
use Rattle.ty_map.proofs.FreshCounts.{made_node, empty_fresh}
use Rattle.ty_map.proofs.Nodes.{if_ok-map}
use Rattle.ty_map.proofs.Order.{sorted_put_left, sorted_put_right}
use Rattle.ty_map.proofs.tree.Tree.+put_in.Goals as goal

pub set_left-requires-clause-sorted : goal.set_left-requires-clause-sorted
set_left-requires-clause-sorted t c =
    let n = c.in-Some.node.now in
    let k = c.args.key.now in
    let v = c.args.value.now in
    let e = pair_of n.pair.value in
    let good = subst IsSound (sym c.in-Some.ensures.value) (subst IsAvl c.in-Node.is c.self.invariant) in
    let is = sym c.self.view_is ∙ ap shape_of c.in-Node.is ∙ ap (λ x. Fork x.left (pair_of x.pair.value) x.right x.height) (sym c.in-Some.ensures.value) in
    let p : slice_cmp nat_cmp k n.pair.value.key ≡ Less = ap (λ x. slice_cmp nat_cmp k x.key) (sym c.deref.ensures) ∙ sym c.compare.ensures ∙ c.in-Less.is in
    let em = c.in_ok-left-in-Less.ensures.pairs ∙ ap (λ x. insert (pairs x) k v) c.replace-left.ensures.value in
    subst (λ x. IsAscending (x ++ e ∷ pairs n.right)) (sym em) (sorted_put_left (slice_cmp nat_cmp) nat_list_cmp_total k v (pairs n.left) e (pairs n.right) p good.0)

pub returns-in-Some-2-clause-pairs : goal.returns-in-Some-2-clause-pairs
returns-in-Some-2-clause-pairs t c =
    let n = c.in-Some.node.now in
    let k = c.args.key.now in
    let v = c.args.value.now in
    let e = pair_of n.pair.value in
    let good = subst IsSound (sym c.in-Some.ensures.value) (subst IsAvl c.in-Node.is c.self.invariant) in
    let is = sym c.self.view_is ∙ ap shape_of c.in-Node.is ∙ ap (λ x. Fork x.left (pair_of x.pair.value) x.right x.height) (sym c.in-Some.ensures.value) in
    let p : slice_cmp nat_cmp k n.pair.value.key ≡ Less = ap (λ x. slice_cmp nat_cmp k x.key) (sym c.deref.ensures) ∙ sym c.compare.ensures ∙ c.in-Less.is in
    let em = c.in_ok-left-in-Less.ensures.pairs ∙ ap (λ x. insert (pairs x) k v) c.replace-left.ensures.value in
    ap (λ o. pairs (settled c.set_left.new.node o)) (sym c.in-Some-2.is) ∙ c.in_ok-turned-in-Less.ensures.pairs ∙ pairs_left k v c.args.self n.left e n.right n.height c.in_ok-left-in-Less.left is p em

pub returns-in-Some-2-clause-kind : goal.returns-in-Some-2-clause-kind
returns-in-Some-2-clause-kind t c =
    let n = c.in-Some.node.now in
    let k = c.args.key.now in
    let v = c.args.value.now in
    let e = pair_of n.pair.value in
    let good = subst IsSound (sym c.in-Some.ensures.value) (subst IsAvl c.in-Node.is c.self.invariant) in
    let is = sym c.self.view_is ∙ ap shape_of c.in-Node.is ∙ ap (λ x. Fork x.left (pair_of x.pair.value) x.right x.height) (sym c.in-Some.ensures.value) in
    let p : slice_cmp nat_cmp k n.pair.value.key ≡ Less = ap (λ x. slice_cmp nat_cmp k x.key) (sym c.deref.ensures) ∙ sym c.compare.ensures ∙ c.in-Less.is in
    c.in_ok-left-in-Less.ensures.kind ∙ ap (λ x. kind_of_put (pairs x) k v) c.replace-left.ensures.value ∙ ap (λ o. kind_of (change k o (Some v))) (found_left k c.args.self n.left e n.right n.height is p good.0)

pub returns-in-Some-2-clause-fresh : goal.returns-in-Some-2-clause-fresh
returns-in-Some-2-clause-fresh t c =
    let n = c.in-Some.node.now in
    let k = c.args.key.now in
    let v = c.args.value.now in
    let e = pair_of n.pair.value in
    let good = subst IsSound (sym c.in-Some.ensures.value) (subst IsAvl c.in-Node.is c.self.invariant) in
    let is = sym c.self.view_is ∙ ap shape_of c.in-Node.is ∙ ap (λ x. Fork x.left (pair_of x.pair.value) x.right x.height) (sym c.in-Some.ensures.value) in
    let new = subst (λ s. AtMostFresh s c.in_ok-left-in-Less.left (3 * (height s + 1))) c.replace-left.ensures.value c.in_ok-left-in-Less.ensures.fresh in
    subst (λ o. AtMostFresh c.args.self (settled c.set_left.new.node o) (3 * (height c.args.self + 1))) c.in-Some-2.is
    (settled_left c.args.self n.left e n.right n.height c.in_ok-left-in-Less.left (settled c.set_left.new.node c.in_ok-turned-in-Less.field-0) is (omega (arith, good.1)) new c.in_ok-turned-in-Less.ensures.fresh)

pub returns-in-None-clause-pairs : goal.returns-in-None-clause-pairs
returns-in-None-clause-pairs t c =
    let n = c.in-Some.node.now in
    let k = c.args.key.now in
    let v = c.args.value.now in
    let e = pair_of n.pair.value in
    let good = subst IsSound (sym c.in-Some.ensures.value) (subst IsAvl c.in-Node.is c.self.invariant) in
    let is = sym c.self.view_is ∙ ap shape_of c.in-Node.is ∙ ap (λ x. Fork x.left (pair_of x.pair.value) x.right x.height) (sym c.in-Some.ensures.value) in
    let p : slice_cmp nat_cmp k n.pair.value.key ≡ Less = ap (λ x. slice_cmp nat_cmp k x.key) (sym c.deref.ensures) ∙ sym c.compare.ensures ∙ c.in-Less.is in
    let em = c.in_ok-left-in-Less.ensures.pairs ∙ ap (λ x. insert (pairs x) k v) c.replace-left.ensures.value in
    ap (λ o. pairs (settled c.set_left.new.node o)) (sym c.in-None.is) ∙ c.in_ok-turned-in-Less.ensures.pairs ∙ pairs_left k v c.args.self n.left e n.right n.height c.in_ok-left-in-Less.left is p em

pub returns-in-None-clause-kind : goal.returns-in-None-clause-kind
returns-in-None-clause-kind t c =
    let n = c.in-Some.node.now in
    let k = c.args.key.now in
    let v = c.args.value.now in
    let e = pair_of n.pair.value in
    let good = subst IsSound (sym c.in-Some.ensures.value) (subst IsAvl c.in-Node.is c.self.invariant) in
    let is = sym c.self.view_is ∙ ap shape_of c.in-Node.is ∙ ap (λ x. Fork x.left (pair_of x.pair.value) x.right x.height) (sym c.in-Some.ensures.value) in
    let p : slice_cmp nat_cmp k n.pair.value.key ≡ Less = ap (λ x. slice_cmp nat_cmp k x.key) (sym c.deref.ensures) ∙ sym c.compare.ensures ∙ c.in-Less.is in
    c.in_ok-left-in-Less.ensures.kind ∙ ap (λ x. kind_of_put (pairs x) k v) c.replace-left.ensures.value ∙ ap (λ o. kind_of (change k o (Some v))) (found_left k c.args.self n.left e n.right n.height is p good.0)

pub returns-in-None-clause-fresh : goal.returns-in-None-clause-fresh
returns-in-None-clause-fresh t c =
    let n = c.in-Some.node.now in
    let k = c.args.key.now in
    let v = c.args.value.now in
    let e = pair_of n.pair.value in
    let good = subst IsSound (sym c.in-Some.ensures.value) (subst IsAvl c.in-Node.is c.self.invariant) in
    let is = sym c.self.view_is ∙ ap shape_of c.in-Node.is ∙ ap (λ x. Fork x.left (pair_of x.pair.value) x.right x.height) (sym c.in-Some.ensures.value) in
    let new = subst (λ s. AtMostFresh s c.in_ok-left-in-Less.left (3 * (height s + 1))) c.replace-left.ensures.value c.in_ok-left-in-Less.ensures.fresh in
    subst (λ o. AtMostFresh c.args.self (settled c.set_left.new.node o) (3 * (height c.args.self + 1))) c.in-None.is
    (settled_left c.args.self n.left e n.right n.height c.in_ok-left-in-Less.left (settled c.set_left.new.node c.in_ok-turned-in-Less.field-0) is (omega (arith, good.1)) new c.in_ok-turned-in-Less.ensures.fresh)

pub set_right-requires-clause-sorted : goal.set_right-requires-clause-sorted
set_right-requires-clause-sorted t c =
    let n = c.in-Some.node.now in
    let k = c.args.key.now in
    let v = c.args.value.now in
    let e = pair_of n.pair.value in
    let good = subst IsSound (sym c.in-Some.ensures.value) (subst IsAvl c.in-Node.is c.self.invariant) in
    let is = sym c.self.view_is ∙ ap shape_of c.in-Node.is ∙ ap (λ x. Fork x.left (pair_of x.pair.value) x.right x.height) (sym c.in-Some.ensures.value) in
    let p : slice_cmp nat_cmp k n.pair.value.key ≡ Greater = ap (λ x. slice_cmp nat_cmp k x.key) (sym c.deref.ensures) ∙ sym c.compare.ensures ∙ c.in-Greater.is in
    let em = c.in_ok-right-in-Greater.ensures.pairs ∙ ap (λ x. insert (pairs x) k v) c.replace-right.ensures.value in
    subst (λ x. IsAscending (pairs n.left ++ e ∷ x)) (sym em) (sorted_put_right (slice_cmp nat_cmp) nat_list_cmp_total k v (pairs n.left) e (pairs n.right) p good.0)

pub returns-in-Some-3-clause-pairs : goal.returns-in-Some-3-clause-pairs
returns-in-Some-3-clause-pairs t c =
    let n = c.in-Some.node.now in
    let k = c.args.key.now in
    let v = c.args.value.now in
    let e = pair_of n.pair.value in
    let good = subst IsSound (sym c.in-Some.ensures.value) (subst IsAvl c.in-Node.is c.self.invariant) in
    let is = sym c.self.view_is ∙ ap shape_of c.in-Node.is ∙ ap (λ x. Fork x.left (pair_of x.pair.value) x.right x.height) (sym c.in-Some.ensures.value) in
    let p : slice_cmp nat_cmp k n.pair.value.key ≡ Greater = ap (λ x. slice_cmp nat_cmp k x.key) (sym c.deref.ensures) ∙ sym c.compare.ensures ∙ c.in-Greater.is in
    let em = c.in_ok-right-in-Greater.ensures.pairs ∙ ap (λ x. insert (pairs x) k v) c.replace-right.ensures.value in
    ap (λ o. pairs (settled c.set_right.new.node o)) (sym c.in-Some-3.is) ∙ c.in_ok-turned-in-Greater.ensures.pairs ∙ pairs_right k v c.args.self n.left e n.right n.height c.in_ok-right-in-Greater.right is p good.0 em

pub returns-in-Some-3-clause-kind : goal.returns-in-Some-3-clause-kind
returns-in-Some-3-clause-kind t c =
    let n = c.in-Some.node.now in
    let k = c.args.key.now in
    let v = c.args.value.now in
    let e = pair_of n.pair.value in
    let good = subst IsSound (sym c.in-Some.ensures.value) (subst IsAvl c.in-Node.is c.self.invariant) in
    let is = sym c.self.view_is ∙ ap shape_of c.in-Node.is ∙ ap (λ x. Fork x.left (pair_of x.pair.value) x.right x.height) (sym c.in-Some.ensures.value) in
    let p : slice_cmp nat_cmp k n.pair.value.key ≡ Greater = ap (λ x. slice_cmp nat_cmp k x.key) (sym c.deref.ensures) ∙ sym c.compare.ensures ∙ c.in-Greater.is in
    c.in_ok-right-in-Greater.ensures.kind ∙ ap (λ x. kind_of_put (pairs x) k v) c.replace-right.ensures.value ∙ ap (λ o. kind_of (change k o (Some v))) (found_right k c.args.self n.left e n.right n.height is p good.0)

pub returns-in-Some-3-clause-fresh : goal.returns-in-Some-3-clause-fresh
returns-in-Some-3-clause-fresh t c =
    let n = c.in-Some.node.now in
    let k = c.args.key.now in
    let v = c.args.value.now in
    let e = pair_of n.pair.value in
    let good = subst IsSound (sym c.in-Some.ensures.value) (subst IsAvl c.in-Node.is c.self.invariant) in
    let is = sym c.self.view_is ∙ ap shape_of c.in-Node.is ∙ ap (λ x. Fork x.left (pair_of x.pair.value) x.right x.height) (sym c.in-Some.ensures.value) in
    let new = subst (λ s. AtMostFresh s c.in_ok-right-in-Greater.right (3 * (height s + 1))) c.replace-right.ensures.value c.in_ok-right-in-Greater.ensures.fresh in
    subst (λ o. AtMostFresh c.args.self (settled c.set_right.new.node o) (3 * (height c.args.self + 1))) c.in-Some-3.is
    (settled_right c.args.self n.left e n.right n.height c.in_ok-right-in-Greater.right (settled c.set_right.new.node c.in_ok-turned-in-Greater.field-0) is (omega (arith, good.1)) new c.in_ok-turned-in-Greater.ensures.fresh)

pub returns-in-None-2-clause-pairs : goal.returns-in-None-2-clause-pairs
returns-in-None-2-clause-pairs t c =
    let n = c.in-Some.node.now in
    let k = c.args.key.now in
    let v = c.args.value.now in
    let e = pair_of n.pair.value in
    let good = subst IsSound (sym c.in-Some.ensures.value) (subst IsAvl c.in-Node.is c.self.invariant) in
    let is = sym c.self.view_is ∙ ap shape_of c.in-Node.is ∙ ap (λ x. Fork x.left (pair_of x.pair.value) x.right x.height) (sym c.in-Some.ensures.value) in
    let p : slice_cmp nat_cmp k n.pair.value.key ≡ Greater = ap (λ x. slice_cmp nat_cmp k x.key) (sym c.deref.ensures) ∙ sym c.compare.ensures ∙ c.in-Greater.is in
    let em = c.in_ok-right-in-Greater.ensures.pairs ∙ ap (λ x. insert (pairs x) k v) c.replace-right.ensures.value in
    ap (λ o. pairs (settled c.set_right.new.node o)) (sym c.in-None-2.is) ∙ c.in_ok-turned-in-Greater.ensures.pairs ∙ pairs_right k v c.args.self n.left e n.right n.height c.in_ok-right-in-Greater.right is p good.0 em

pub returns-in-None-2-clause-kind : goal.returns-in-None-2-clause-kind
returns-in-None-2-clause-kind t c =
    let n = c.in-Some.node.now in
    let k = c.args.key.now in
    let v = c.args.value.now in
    let e = pair_of n.pair.value in
    let good = subst IsSound (sym c.in-Some.ensures.value) (subst IsAvl c.in-Node.is c.self.invariant) in
    let is = sym c.self.view_is ∙ ap shape_of c.in-Node.is ∙ ap (λ x. Fork x.left (pair_of x.pair.value) x.right x.height) (sym c.in-Some.ensures.value) in
    let p : slice_cmp nat_cmp k n.pair.value.key ≡ Greater = ap (λ x. slice_cmp nat_cmp k x.key) (sym c.deref.ensures) ∙ sym c.compare.ensures ∙ c.in-Greater.is in
    c.in_ok-right-in-Greater.ensures.kind ∙ ap (λ x. kind_of_put (pairs x) k v) c.replace-right.ensures.value ∙ ap (λ o. kind_of (change k o (Some v))) (found_right k c.args.self n.left e n.right n.height is p good.0)

pub returns-in-None-2-clause-fresh : goal.returns-in-None-2-clause-fresh
returns-in-None-2-clause-fresh t c =
    let n = c.in-Some.node.now in
    let k = c.args.key.now in
    let v = c.args.value.now in
    let e = pair_of n.pair.value in
    let good = subst IsSound (sym c.in-Some.ensures.value) (subst IsAvl c.in-Node.is c.self.invariant) in
    let is = sym c.self.view_is ∙ ap shape_of c.in-Node.is ∙ ap (λ x. Fork x.left (pair_of x.pair.value) x.right x.height) (sym c.in-Some.ensures.value) in
    let new = subst (λ s. AtMostFresh s c.in_ok-right-in-Greater.right (3 * (height s + 1))) c.replace-right.ensures.value c.in_ok-right-in-Greater.ensures.fresh in
    subst (λ o. AtMostFresh c.args.self (settled c.set_right.new.node o) (3 * (height c.args.self + 1))) c.in-None-2.is
    (settled_right c.args.self n.left e n.right n.height c.in_ok-right-in-Greater.right (settled c.set_right.new.node c.in_ok-turned-in-Greater.field-0) is (omega (arith, good.1)) new c.in_ok-turned-in-Greater.ensures.fresh)

pub write-requires : goal.write-requires
write-requires t c =
    let n = c.in-Some.node.now in
    let k = c.args.key.now in
    let v = c.args.value.now in
    let e = pair_of n.pair.value in
    let good = subst IsSound (sym c.in-Some.ensures.value) (subst IsAvl c.in-Node.is c.self.invariant) in
    let is = sym c.self.view_is ∙ ap shape_of c.in-Node.is ∙ ap (λ x. Fork x.left (pair_of x.pair.value) x.right x.height) (sym c.in-Some.ensures.value) in
    let p : slice_cmp nat_cmp k n.pair.value.key ≡ Equal = ap (λ x. slice_cmp nat_cmp k x.key) (sym c.deref.ensures) ∙ sym c.compare.ensures ∙ c.in-Equal.is in
    sym (slice_cmp-IsAntisymmetric nat_cmp-IsAntisymmetric k n.pair.value.key p)

pub invariant_of-result-in-Equal : goal.invariant_of-result-in-Equal
invariant_of-result-in-Equal t c =
    let n = c.in-Some.node.now in
    let k = c.args.key.now in
    let v = c.args.value.now in
    let e = pair_of n.pair.value in
    let good = subst IsSound (sym c.in-Some.ensures.value) (subst IsAvl c.in-Node.is c.self.invariant) in
    let is = sym c.self.view_is ∙ ap shape_of c.in-Node.is ∙ ap (λ x. Fork x.left (pair_of x.pair.value) x.right x.height) (sym c.in-Some.ensures.value) in
    let p : slice_cmp nat_cmp k n.pair.value.key ≡ Equal = ap (λ x. slice_cmp nat_cmp k x.key) (sym c.deref.ensures) ∙ sym c.compare.ensures ∙ c.in-Equal.is in
    sound_middle k v n.left e n.right n.height n.count (pair_of c.write.new.pair.value) good p c.in_ok-kind-in-Equal.ensures.pair

pub returns-in-Leaf-clause-fresh : goal.returns-in-Leaf-clause-fresh
returns-in-Leaf-clause-fresh t c =
    let old = c.args.self in
    let m : ℕ = 3 * (height old + 1) in
    let new = made_node old Empty (c.args.key.now, c.args.value.now) Empty 0 0 m (empty_fresh old 0) (empty_fresh old 0) (omega arith) in
    if_ok-map (λ x h. subst (λ s. AtMostFresh old s m) (sym h) new) c.put_first.result c.put_first.ensures.tree

pub returns-in_ok-kind-in-Equal-clause-pairs : goal.returns-in_ok-kind-in-Equal-clause-pairs
returns-in_ok-kind-in-Equal-clause-pairs t c =
    let n = c.in-Some.node.now in
    let k = c.args.key.now in
    let v = c.args.value.now in
    let e = pair_of n.pair.value in
    let good = subst IsSound (sym c.in-Some.ensures.value) (subst IsAvl c.in-Node.is c.self.invariant) in
    let is = sym c.self.view_is ∙ ap shape_of c.in-Node.is ∙ ap (λ x. Fork x.left (pair_of x.pair.value) x.right x.height) (sym c.in-Some.ensures.value) in
    let p : slice_cmp nat_cmp k n.pair.value.key ≡ Equal = ap (λ x. slice_cmp nat_cmp k x.key) (sym c.deref.ensures) ∙ sym c.compare.ensures ∙ c.in-Equal.is in
    pairs_middle k v c.args.self n.left e n.right n.height (pair_of c.write.new.pair.value) is p good.0 c.in_ok-kind-in-Equal.ensures.pair

pub returns-in_ok-kind-in-Equal-clause-kind : goal.returns-in_ok-kind-in-Equal-clause-kind
returns-in_ok-kind-in-Equal-clause-kind t c =
    let n = c.in-Some.node.now in
    let k = c.args.key.now in
    let v = c.args.value.now in
    let e = pair_of n.pair.value in
    let good = subst IsSound (sym c.in-Some.ensures.value) (subst IsAvl c.in-Node.is c.self.invariant) in
    let is = sym c.self.view_is ∙ ap shape_of c.in-Node.is ∙ ap (λ x. Fork x.left (pair_of x.pair.value) x.right x.height) (sym c.in-Some.ensures.value) in
    let p : slice_cmp nat_cmp k n.pair.value.key ≡ Equal = ap (λ x. slice_cmp nat_cmp k x.key) (sym c.deref.ensures) ∙ sym c.compare.ensures ∙ c.in-Equal.is in
    c.in_ok-kind-in-Equal.ensures.kind ∙ ap (λ o. kind_of (change k o (Some v))) (found_middle k c.args.self n.left e n.right n.height is p good.0)

pub returns-in_ok-kind-in-Equal-clause-fresh : goal.returns-in_ok-kind-in-Equal-clause-fresh
returns-in_ok-kind-in-Equal-clause-fresh t c =
    let n = c.in-Some.node.now in
    let k = c.args.key.now in
    let v = c.args.value.now in
    let e = pair_of n.pair.value in
    let good = subst IsSound (sym c.in-Some.ensures.value) (subst IsAvl c.in-Node.is c.self.invariant) in
    let is = sym c.self.view_is ∙ ap shape_of c.in-Node.is ∙ ap (λ x. Fork x.left (pair_of x.pair.value) x.right x.height) (sym c.in-Some.ensures.value) in
    fresh_middle c.args.self n.left e n.right n.height (pair_of c.write.new.pair.value) is
