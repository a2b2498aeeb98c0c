use Rattle.std.proofs.Common.{◌≡◌, ◌+◌, ◌*◌, ℕ, arith, ◌++◌, ◌∷◌, Less, Equal, Greater, ap, sym, ◌∙◌, subst, refl}
use Rattle.std.specs.Prelude.{IfOk, is_some}
use Rattle.std.specs.Ordering.{nat_cmp}
use Rattle.std.specs.Cmp.Lexicographic.{slice_cmp}
use Rattle.ty_base.specs.Feed.{get, remove}
use Rattle.ty_map.specs.Ascending.{IsAscending}
use Rattle.ty_map.specs.Shape.{Empty, Fork, pairs, height}
use Rattle.ty_map.specs.Nodes.{pair_of, shape_of}
use Rattle.ty_map.specs.steps.Tree.{IsAvl, IsSound, AtMostFresh, settled}
use Rattle.ty_map.proofs.Alone.{removed_left, removed_right, removed_middle, removed_last, sorted_removed_left, sorted_removed_right, sorted_removed_middle, found_left, found_right, found_middle, settled_left, settled_right}
use Rattle.ty_map.proofs.Nodes.{sorted_joined, joined, if_ok-map}
use Rattle.ty_map.proofs.FreshCounts.{empty_fresh, at_most-more, under_right, left_shared}
use Rattle.ty_map.proofs.tree.Tree.+remove_in.Goals as goal

pub returns-in-Leaf-clause-fresh : goal.returns-in-Leaf-clause-fresh
returns-in-Leaf-clause-fresh t c =
    let old = c.args.self in
    let m : ℕ = 3 * (height old + 1) in
    subst (λ s. AtMostFresh old s m) (sym c.empty.ensures) (empty_fresh old m)

pub set_left-requires-clause-sorted : goal.set_left-requires-clause-sorted
set_left-requires-clause-sorted t c =
    let n = c.in-Some.node.now in
    let k = c.args.key.now in
    let e = pair_of n.pair.value in
    let good = subst IsSound (sym c.in-Some.ensures.value) (subst IsAvl c.in-Node.is c.self.invariant) in
    let is = sym c.self.view_is ∙ ap shape_of c.in-Node.is ∙ ap (λ x. Fork x.left (pair_of x.pair.value) x.right x.height) (sym c.in-Some.ensures.value) in
    let p : slice_cmp nat_cmp k n.pair.value.key ≡ Less = ap (λ x. slice_cmp nat_cmp k x.key) (sym c.deref.ensures) ∙ sym c.compare.ensures ∙ c.in-Less.is in
    let em = c.in_ok-left-in-Less.ensures.pairs ∙ ap (λ x. remove (pairs x) k) c.replace-left.ensures.value in
    subst (λ x. IsAscending (x ++ e ∷ pairs n.right)) (sym em) (sorted_removed_left k n.left e n.right p good.0)

pub returns-in-Some-2-clause-pairs : goal.returns-in-Some-2-clause-pairs
returns-in-Some-2-clause-pairs t c =
    let n = c.in-Some.node.now in
    let k = c.args.key.now in
    let e = pair_of n.pair.value in
    let good = subst IsSound (sym c.in-Some.ensures.value) (subst IsAvl c.in-Node.is c.self.invariant) in
    let is = sym c.self.view_is ∙ ap shape_of c.in-Node.is ∙ ap (λ x. Fork x.left (pair_of x.pair.value) x.right x.height) (sym c.in-Some.ensures.value) in
    let p : slice_cmp nat_cmp k n.pair.value.key ≡ Less = ap (λ x. slice_cmp nat_cmp k x.key) (sym c.deref.ensures) ∙ sym c.compare.ensures ∙ c.in-Less.is in
    let em = c.in_ok-left-in-Less.ensures.pairs ∙ ap (λ x. remove (pairs x) k) c.replace-left.ensures.value in
    ap (λ o. pairs (settled c.set_left.new.node o)) (sym c.in-Some-2.is) ∙ c.in_ok-turned-in-Less.ensures.pairs ∙ removed_left k c.args.self n.left e n.right n.height c.in_ok-left-in-Less.left is p good.0 em

pub returns-in-Some-2-clause-held : goal.returns-in-Some-2-clause-held
returns-in-Some-2-clause-held t c =
    let n = c.in-Some.node.now in
    let k = c.args.key.now in
    let e = pair_of n.pair.value in
    let good = subst IsSound (sym c.in-Some.ensures.value) (subst IsAvl c.in-Node.is c.self.invariant) in
    let is = sym c.self.view_is ∙ ap shape_of c.in-Node.is ∙ ap (λ x. Fork x.left (pair_of x.pair.value) x.right x.height) (sym c.in-Some.ensures.value) in
    let p : slice_cmp nat_cmp k n.pair.value.key ≡ Less = ap (λ x. slice_cmp nat_cmp k x.key) (sym c.deref.ensures) ∙ sym c.compare.ensures ∙ c.in-Less.is in
    c.in_ok-left-in-Less.ensures.held ∙ ap (λ x. is_some (get (pairs x) k)) c.replace-left.ensures.value ∙ ap is_some (found_left k c.args.self n.left e n.right n.height is p good.0)

pub returns-in-Some-2-clause-fresh : goal.returns-in-Some-2-clause-fresh
returns-in-Some-2-clause-fresh t c =
    let n = c.in-Some.node.now in
    let k = c.args.key.now in
    let e = pair_of n.pair.value in
    let good = subst IsSound (sym c.in-Some.ensures.value) (subst IsAvl c.in-Node.is c.self.invariant) in
    let is = sym c.self.view_is ∙ ap shape_of c.in-Node.is ∙ ap (λ x. Fork x.left (pair_of x.pair.value) x.right x.height) (sym c.in-Some.ensures.value) in
    let new = subst (λ s. AtMostFresh s c.in_ok-left-in-Less.left (3 * (height s + 1))) c.replace-left.ensures.value c.in_ok-left-in-Less.ensures.fresh in
    subst (λ o. AtMostFresh c.args.self (settled c.set_left.new.node o) (3 * (height c.args.self + 1))) c.in-Some-2.is
    (settled_left c.args.self n.left e n.right n.height c.in_ok-left-in-Less.left (settled c.set_left.new.node c.in_ok-turned-in-Less.field-0) is (omega (arith, good.1)) new c.in_ok-turned-in-Less.ensures.fresh)

pub returns-in-Less-clause-pairs : goal.returns-in-Less-clause-pairs
returns-in-Less-clause-pairs t c =
    let n = c.in-Some.node.now in
    let k = c.args.key.now in
    let e = pair_of n.pair.value in
    let good = subst IsSound (sym c.in-Some.ensures.value) (subst IsAvl c.in-Node.is c.self.invariant) in
    let is = sym c.self.view_is ∙ ap shape_of c.in-Node.is ∙ ap (λ x. Fork x.left (pair_of x.pair.value) x.right x.height) (sym c.in-Some.ensures.value) in
    let p : slice_cmp nat_cmp k n.pair.value.key ≡ Less = ap (λ x. slice_cmp nat_cmp k x.key) (sym c.deref.ensures) ∙ sym c.compare.ensures ∙ c.in-Less.is in
    let em = c.in_ok-left-in-Less.ensures.pairs ∙ ap (λ x. remove (pairs x) k) c.replace-left.ensures.value in
    ap (λ o. pairs (settled c.set_left.new.node o)) (sym c.in-None.is) ∙ c.in_ok-turned-in-Less.ensures.pairs ∙ removed_left k c.args.self n.left e n.right n.height c.in_ok-left-in-Less.left is p good.0 em

pub returns-in-Less-clause-held : goal.returns-in-Less-clause-held
returns-in-Less-clause-held t c =
    let n = c.in-Some.node.now in
    let k = c.args.key.now in
    let e = pair_of n.pair.value in
    let good = subst IsSound (sym c.in-Some.ensures.value) (subst IsAvl c.in-Node.is c.self.invariant) in
    let is = sym c.self.view_is ∙ ap shape_of c.in-Node.is ∙ ap (λ x. Fork x.left (pair_of x.pair.value) x.right x.height) (sym c.in-Some.ensures.value) in
    let p : slice_cmp nat_cmp k n.pair.value.key ≡ Less = ap (λ x. slice_cmp nat_cmp k x.key) (sym c.deref.ensures) ∙ sym c.compare.ensures ∙ c.in-Less.is in
    c.in_ok-left-in-Less.ensures.held ∙ ap (λ x. is_some (get (pairs x) k)) c.replace-left.ensures.value ∙ ap is_some (found_left k c.args.self n.left e n.right n.height is p good.0)

pub returns-in-Less-clause-fresh : goal.returns-in-Less-clause-fresh
returns-in-Less-clause-fresh t c =
    let n = c.in-Some.node.now in
    let k = c.args.key.now in
    let e = pair_of n.pair.value in
    let good = subst IsSound (sym c.in-Some.ensures.value) (subst IsAvl c.in-Node.is c.self.invariant) in
    let is = sym c.self.view_is ∙ ap shape_of c.in-Node.is ∙ ap (λ x. Fork x.left (pair_of x.pair.value) x.right x.height) (sym c.in-Some.ensures.value) in
    let new = subst (λ s. AtMostFresh s c.in_ok-left-in-Less.left (3 * (height s + 1))) c.replace-left.ensures.value c.in_ok-left-in-Less.ensures.fresh in
    subst (λ o. AtMostFresh c.args.self (settled c.set_left.new.node o) (3 * (height c.args.self + 1))) c.in-None.is
    (settled_left c.args.self n.left e n.right n.height c.in_ok-left-in-Less.left (settled c.set_left.new.node c.in_ok-turned-in-Less.field-0) is (omega (arith, good.1)) new c.in_ok-turned-in-Less.ensures.fresh)

pub set_right-requires-clause-sorted : goal.set_right-requires-clause-sorted
set_right-requires-clause-sorted t c =
    let n = c.in-Some.node.now in
    let k = c.args.key.now in
    let e = pair_of n.pair.value in
    let good = subst IsSound (sym c.in-Some.ensures.value) (subst IsAvl c.in-Node.is c.self.invariant) in
    let is = sym c.self.view_is ∙ ap shape_of c.in-Node.is ∙ ap (λ x. Fork x.left (pair_of x.pair.value) x.right x.height) (sym c.in-Some.ensures.value) in
    let p : slice_cmp nat_cmp k n.pair.value.key ≡ Greater = ap (λ x. slice_cmp nat_cmp k x.key) (sym c.deref.ensures) ∙ sym c.compare.ensures ∙ c.in-Greater.is in
    let em = c.in_ok-right-in-Greater.ensures.pairs ∙ ap (λ x. remove (pairs x) k) c.replace-right.ensures.value in
    subst (λ x. IsAscending (pairs n.left ++ e ∷ x)) (sym em) (sorted_removed_right k n.left e n.right p good.0)

pub returns-in-Some-3-clause-pairs : goal.returns-in-Some-3-clause-pairs
returns-in-Some-3-clause-pairs t c =
    let n = c.in-Some.node.now in
    let k = c.args.key.now in
    let e = pair_of n.pair.value in
    let good = subst IsSound (sym c.in-Some.ensures.value) (subst IsAvl c.in-Node.is c.self.invariant) in
    let is = sym c.self.view_is ∙ ap shape_of c.in-Node.is ∙ ap (λ x. Fork x.left (pair_of x.pair.value) x.right x.height) (sym c.in-Some.ensures.value) in
    let p : slice_cmp nat_cmp k n.pair.value.key ≡ Greater = ap (λ x. slice_cmp nat_cmp k x.key) (sym c.deref.ensures) ∙ sym c.compare.ensures ∙ c.in-Greater.is in
    let em = c.in_ok-right-in-Greater.ensures.pairs ∙ ap (λ x. remove (pairs x) k) c.replace-right.ensures.value in
    ap (λ o. pairs (settled c.set_right.new.node o)) (sym c.in-Some-3.is) ∙ c.in_ok-turned-in-Greater.ensures.pairs ∙ removed_right k c.args.self n.left e n.right n.height c.in_ok-right-in-Greater.right is p good.0 em

pub returns-in-Some-3-clause-held : goal.returns-in-Some-3-clause-held
returns-in-Some-3-clause-held t c =
    let n = c.in-Some.node.now in
    let k = c.args.key.now in
    let e = pair_of n.pair.value in
    let good = subst IsSound (sym c.in-Some.ensures.value) (subst IsAvl c.in-Node.is c.self.invariant) in
    let is = sym c.self.view_is ∙ ap shape_of c.in-Node.is ∙ ap (λ x. Fork x.left (pair_of x.pair.value) x.right x.height) (sym c.in-Some.ensures.value) in
    let p : slice_cmp nat_cmp k n.pair.value.key ≡ Greater = ap (λ x. slice_cmp nat_cmp k x.key) (sym c.deref.ensures) ∙ sym c.compare.ensures ∙ c.in-Greater.is in
    c.in_ok-right-in-Greater.ensures.held ∙ ap (λ x. is_some (get (pairs x) k)) c.replace-right.ensures.value ∙ ap is_some (found_right k c.args.self n.left e n.right n.height is p good.0)

pub returns-in-Some-3-clause-fresh : goal.returns-in-Some-3-clause-fresh
returns-in-Some-3-clause-fresh t c =
    let n = c.in-Some.node.now in
    let k = c.args.key.now in
    let e = pair_of n.pair.value in
    let good = subst IsSound (sym c.in-Some.ensures.value) (subst IsAvl c.in-Node.is c.self.invariant) in
    let is = sym c.self.view_is ∙ ap shape_of c.in-Node.is ∙ ap (λ x. Fork x.left (pair_of x.pair.value) x.right x.height) (sym c.in-Some.ensures.value) in
    let new = subst (λ s. AtMostFresh s c.in_ok-right-in-Greater.right (3 * (height s + 1))) c.replace-right.ensures.value c.in_ok-right-in-Greater.ensures.fresh in
    subst (λ o. AtMostFresh c.args.self (settled c.set_right.new.node o) (3 * (height c.args.self + 1))) c.in-Some-3.is
    (settled_right c.args.self n.left e n.right n.height c.in_ok-right-in-Greater.right (settled c.set_right.new.node c.in_ok-turned-in-Greater.field-0) is (omega (arith, good.1)) new c.in_ok-turned-in-Greater.ensures.fresh)

pub returns-in-Greater-clause-pairs : goal.returns-in-Greater-clause-pairs
returns-in-Greater-clause-pairs t c =
    let n = c.in-Some.node.now in
    let k = c.args.key.now in
    let e = pair_of n.pair.value in
    let good = subst IsSound (sym c.in-Some.ensures.value) (subst IsAvl c.in-Node.is c.self.invariant) in
    let is = sym c.self.view_is ∙ ap shape_of c.in-Node.is ∙ ap (λ x. Fork x.left (pair_of x.pair.value) x.right x.height) (sym c.in-Some.ensures.value) in
    let p : slice_cmp nat_cmp k n.pair.value.key ≡ Greater = ap (λ x. slice_cmp nat_cmp k x.key) (sym c.deref.ensures) ∙ sym c.compare.ensures ∙ c.in-Greater.is in
    let em = c.in_ok-right-in-Greater.ensures.pairs ∙ ap (λ x. remove (pairs x) k) c.replace-right.ensures.value in
    ap (λ o. pairs (settled c.set_right.new.node o)) (sym c.in-None-2.is) ∙ c.in_ok-turned-in-Greater.ensures.pairs ∙ removed_right k c.args.self n.left e n.right n.height c.in_ok-right-in-Greater.right is p good.0 em

pub returns-in-Greater-clause-held : goal.returns-in-Greater-clause-held
returns-in-Greater-clause-held t c =
    let n = c.in-Some.node.now in
    let k = c.args.key.now in
    let e = pair_of n.pair.value in
    let good = subst IsSound (sym c.in-Some.ensures.value) (subst IsAvl c.in-Node.is c.self.invariant) in
    let is = sym c.self.view_is ∙ ap shape_of c.in-Node.is ∙ ap (λ x. Fork x.left (pair_of x.pair.value) x.right x.height) (sym c.in-Some.ensures.value) in
    let p : slice_cmp nat_cmp k n.pair.value.key ≡ Greater = ap (λ x. slice_cmp nat_cmp k x.key) (sym c.deref.ensures) ∙ sym c.compare.ensures ∙ c.in-Greater.is in
    c.in_ok-right-in-Greater.ensures.held ∙ ap (λ x. is_some (get (pairs x) k)) c.replace-right.ensures.value ∙ ap is_some (found_right k c.args.self n.left e n.right n.height is p good.0)

pub returns-in-Greater-clause-fresh : goal.returns-in-Greater-clause-fresh
returns-in-Greater-clause-fresh t c =
    let n = c.in-Some.node.now in
    let k = c.args.key.now in
    let e = pair_of n.pair.value in
    let good = subst IsSound (sym c.in-Some.ensures.value) (subst IsAvl c.in-Node.is c.self.invariant) in
    let is = sym c.self.view_is ∙ ap shape_of c.in-Node.is ∙ ap (λ x. Fork x.left (pair_of x.pair.value) x.right x.height) (sym c.in-Some.ensures.value) in
    let new = subst (λ s. AtMostFresh s c.in_ok-right-in-Greater.right (3 * (height s + 1))) c.replace-right.ensures.value c.in_ok-right-in-Greater.ensures.fresh in
    subst (λ o. AtMostFresh c.args.self (settled c.set_right.new.node o) (3 * (height c.args.self + 1))) c.in-None-2.is
    (settled_right c.args.self n.left e n.right n.height c.in_ok-right-in-Greater.right (settled c.set_right.new.node c.in_ok-turned-in-Greater.field-0) is (omega (arith, good.1)) new c.in_ok-turned-in-Greater.ensures.fresh)

pub returns-in-None-3-clause-pairs : goal.returns-in-None-3-clause-pairs
returns-in-None-3-clause-pairs t c =
    let n = c.in-Some.node.now in
    let q = c.args.key.now in
    let e = pair_of n.pair.value in
    let good = subst IsSound (sym c.in-Some.ensures.value) (subst IsAvl c.in-Node.is c.self.invariant) in
    let is = sym c.self.view_is ∙ ap shape_of c.in-Node.is ∙ ap (λ x. Fork x.left (pair_of x.pair.value) x.right x.height) (sym c.in-Some.ensures.value) in
    let p : slice_cmp nat_cmp q n.pair.value.key ≡ Equal = ap (λ x. slice_cmp nat_cmp q x.key) (sym c.deref.ensures) ∙ sym c.compare.ensures ∙ c.in-Equal.is in
    let rest = c.in_ok-split_first-in-Equal.ensures.none in
    let none : n.right ≡ Empty = rw c.in-None-3.is at rest in
    ap pairs c.replace-left-in-Equal.ensures.value ∙ removed_last q c.args.self n.left e n.right n.height is p good.0 (ap pairs none)

pub returns-in-None-3-clause-fresh : goal.returns-in-None-3-clause-fresh
returns-in-None-3-clause-fresh t c =
    let n = c.in-Some.node.now in
    let q = c.args.key.now in
    let e = pair_of n.pair.value in
    let good = subst IsSound (sym c.in-Some.ensures.value) (subst IsAvl c.in-Node.is c.self.invariant) in
    let is = sym c.self.view_is ∙ ap shape_of c.in-Node.is ∙ ap (λ x. Fork x.left (pair_of x.pair.value) x.right x.height) (sym c.in-Some.ensures.value) in
    let p : slice_cmp nat_cmp q n.pair.value.key ≡ Equal = ap (λ x. slice_cmp nat_cmp q x.key) (sym c.deref.ensures) ∙ sym c.compare.ensures ∙ c.in-Equal.is in
    let m : ℕ = 3 * (n.height + 1) in
    let new = subst (λ s. AtMostFresh (Fork n.left e n.right n.height) s m) (sym c.replace-left-in-Equal.ensures.value) (left_shared n.left e n.right n.height m) in
    subst (λ s. AtMostFresh s c.replace-left-in-Equal.result (3 * (height s + 1))) (sym is) new

pub balance-requires-clause-sorted : goal.balance-requires-clause-sorted
balance-requires-clause-sorted t c =
    let n = c.in-Some.node.now in
    let q = c.args.key.now in
    let e = pair_of n.pair.value in
    let good = subst IsSound (sym c.in-Some.ensures.value) (subst IsAvl c.in-Node.is c.self.invariant) in
    let is = sym c.self.view_is ∙ ap shape_of c.in-Node.is ∙ ap (λ x. Fork x.left (pair_of x.pair.value) x.right x.height) (sym c.in-Some.ensures.value) in
    let p : slice_cmp nat_cmp q n.pair.value.key ≡ Equal = ap (λ x. slice_cmp nat_cmp q x.key) (sym c.deref.ensures) ∙ sym c.compare.ensures ∙ c.in-Equal.is in
    let rest = c.in_ok-split_first-in-Equal.ensures.pairs in
    let split : pairs n.right ≡ pair_of c.in-Some-4.first.value ∷ pairs c.in-Some-4.right = rw c.in-Some-4.is at rest in
    let el = ap pairs c.replace-left-in-Equal.ensures.value in
    sorted_joined {e = c.in-Some-4.first.value} el refl refl (subst (λ x. IsAscending (pairs n.left ++ x)) split (sorted_removed_middle q n.left e n.right p good.0))

pub returns-clause-pairs : goal.returns-clause-pairs
returns-clause-pairs t c =
    let n = c.in-Some.node.now in
    let q = c.args.key.now in
    let e = pair_of n.pair.value in
    let good = subst IsSound (sym c.in-Some.ensures.value) (subst IsAvl c.in-Node.is c.self.invariant) in
    let is = sym c.self.view_is ∙ ap shape_of c.in-Node.is ∙ ap (λ x. Fork x.left (pair_of x.pair.value) x.right x.height) (sym c.in-Some.ensures.value) in
    let p : slice_cmp nat_cmp q n.pair.value.key ≡ Equal = ap (λ x. slice_cmp nat_cmp q x.key) (sym c.deref.ensures) ∙ sym c.compare.ensures ∙ c.in-Equal.is in
    let rest = c.in_ok-split_first-in-Equal.ensures.pairs in
    let split : pairs n.right ≡ pair_of c.in-Some-4.first.value ∷ pairs c.in-Some-4.right = rw c.in-Some-4.is at rest in
    let el = ap pairs c.replace-left-in-Equal.ensures.value in
    c.in_ok-rest-in-Some-4.ensures.pairs ∙ joined {e = c.in-Some-4.first.value} el refl refl ∙ ap (λ x. pairs n.left ++ x) (sym split) ∙ removed_middle q c.args.self n.left e n.right n.height is p good.0

pub returns-clause-held : goal.returns-clause-held
returns-clause-held t c =
    let n = c.in-Some.node.now in
    let q = c.args.key.now in
    let e = pair_of n.pair.value in
    let good = subst IsSound (sym c.in-Some.ensures.value) (subst IsAvl c.in-Node.is c.self.invariant) in
    let is = sym c.self.view_is ∙ ap shape_of c.in-Node.is ∙ ap (λ x. Fork x.left (pair_of x.pair.value) x.right x.height) (sym c.in-Some.ensures.value) in
    let p : slice_cmp nat_cmp q n.pair.value.key ≡ Equal = ap (λ x. slice_cmp nat_cmp q x.key) (sym c.deref.ensures) ∙ sym c.compare.ensures ∙ c.in-Equal.is in
    ap is_some (found_middle q c.args.self n.left e n.right n.height is p good.0)

pub returns-clause-fresh : goal.returns-clause-fresh
returns-clause-fresh t c =
    let n = c.in-Some.node.now in
    let q = c.args.key.now in
    let e = pair_of n.pair.value in
    let good = subst IsSound (sym c.in-Some.ensures.value) (subst IsAvl c.in-Node.is c.self.invariant) in
    let is = sym c.self.view_is ∙ ap shape_of c.in-Node.is ∙ ap (λ x. Fork x.left (pair_of x.pair.value) x.right x.height) (sym c.in-Some.ensures.value) in
    let old = Fork n.left e n.right n.height in
    let b : ℕ = 3 * height n.right in
    let found = c.in_ok-split_first-in-Equal.ensures.fresh in
    let side_new : AtMostFresh n.right c.in-Some-4.right (3 * height n.right) = rw c.in-Some-4.is at found in
    let left_new = subst (λ s. AtMostFresh old s 0) (sym c.replace-left-in-Equal.ensures.value) (left_shared n.left e n.right n.height 0) in
    let all = c.in_ok-rest-in-Some-4.ensures.fresh old 0 b left_new (under_right n.left e n.right n.height c.in-Some-4.right b side_new) in
    subst (λ s. AtMostFresh s c.in_ok-rest-in-Some-4.rest (3 * (height s + 1))) (sym is)
    (at_most-more old c.in_ok-rest-in-Some-4.rest (0 + b + 3) (3 * (n.height + 1)) (omega (arith, good.1)) all)
