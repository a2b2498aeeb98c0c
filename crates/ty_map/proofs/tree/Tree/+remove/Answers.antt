use Rattle.std.proofs.Common.{◌≡◌, ◌+◌, ◌*◌, arith, ◌++◌, ◌∷◌, [], List, ℕ, Bool, not, Less, Equal, Greater, ap, sym, ◌∙◌, subst, refl}
use Rattle.std.specs.Prelude.{IfOk}
use Rattle.std.specs.Ordering.{nat_cmp}
use Rattle.std.specs.Str.{bytes_eq}
use Rattle.std.specs.Cmp.Lexicographic.{slice_cmp, nat_list_cmp_total, texts_ties}
use Rattle.ty_base.specs.Feed.{remove}
use Rattle.ty_map.specs.Ascending.{IsAscending}
use Rattle.ty_map.specs.Shape.{Empty, Fork, pairs, height}
use Rattle.ty_map.specs.Nodes.{pair_of, shape_of}
use Rattle.ty_map.specs.steps.Tree.{IsAvl, AtMostFresh}
use Rattle.ty_map.proofs.Nodes.{joined, sorted_joined, if_ok-map}
use Rattle.ty_map.proofs.Order.{OnlyFails, remove_left, remove_right, remove_middle, sorted_remove_left, sorted_remove_right, sorted_remove_middle}
use Rattle.ty_map.proofs.Nodes.{append_nil}
use Rattle.ty_map.proofs.FreshCounts.{empty_fresh, at_most-more, under_left, under_right, left_shared, right_shared}
use Rattle.ty_map.proofs.tree.Tree.+remove.Goals as goal

pub balance-requires-clause-sorted : goal.balance-requires-clause-sorted
balance-requires-clause-sorted t c =
    let good = subst IsAvl c.in-Node.is c.self.invariant in
    let is = sym c.self.view_is ∙ ap shape_of c.in-Node.is in
    let n = c.in-Node.node.value in
    let q = c.args.key.now in
    let here = c.deref-in-Node.ensures ∙ ap (λ x. x.pair.value) c.deref.ensures in
    let p : slice_cmp nat_cmp q n.pair.value.key ≡ Less = ap (λ x. slice_cmp nat_cmp q x.key) (sym here) ∙ sym c.compare.ensures ∙ c.in-Less.is in
    let test : List ℕ → Bool = λ x. not (bytes_eq q x) in
    let only : OnlyFails (slice_cmp nat_cmp) q test = λ x. ap not (texts_ties q x) in
    let el = c.in_ok-left-in-Less.ensures.pairs ∙ ap (λ x. remove (pairs x.left) q) c.deref-in-Less.ensures in
    let ee = c.in_ok-try_clone-in-Less.ensures ∙ ap (λ x. x.pair.value) c.deref-in-Less-2.ensures in
    let er = ap (λ d. (pairs d)) c.in_ok-copy-in-Less.ensures ∙ ap (λ x. (pairs x.right)) c.deref-in-Less-3.ensures in
    sorted_joined el ee er (sorted_remove_left (slice_cmp nat_cmp) nat_list_cmp_total q test only (pairs n.left) (pair_of n.pair.value) (pairs n.right) p good.0)

pub balance-requires-in-Greater-clause-sorted : goal.balance-requires-in-Greater-clause-sorted
balance-requires-in-Greater-clause-sorted t c =
    let good = subst IsAvl c.in-Node.is c.self.invariant in
    let is = sym c.self.view_is ∙ ap shape_of c.in-Node.is in
    let n = c.in-Node.node.value in
    let q = c.args.key.now in
    let here = c.deref-in-Node.ensures ∙ ap (λ x. x.pair.value) c.deref.ensures in
    let p : slice_cmp nat_cmp q n.pair.value.key ≡ Greater = ap (λ x. slice_cmp nat_cmp q x.key) (sym here) ∙ sym c.compare.ensures ∙ c.in-Greater.is in
    let test : List ℕ → Bool = λ x. not (bytes_eq q x) in
    let only : OnlyFails (slice_cmp nat_cmp) q test = λ x. ap not (texts_ties q x) in
    let el = ap (λ d. (pairs d)) c.in_ok-copy-in-Greater.ensures ∙ ap (λ x. (pairs x.left)) c.deref-in-Greater-2.ensures in
    let ee = c.in_ok-try_clone-in-Greater.ensures ∙ ap (λ x. x.pair.value) c.deref-in-Greater-3.ensures in
    let er = c.in_ok-right-in-Greater.ensures.pairs ∙ ap (λ x. remove (pairs x.right) q) c.deref-in-Greater.ensures in
    sorted_joined el ee er (sorted_remove_right (slice_cmp nat_cmp) nat_list_cmp_total q test only (pairs n.left) (pair_of n.pair.value) (pairs n.right) p good.0)

pub balance-requires-in-Some-clause-sorted : goal.balance-requires-in-Some-clause-sorted
balance-requires-in-Some-clause-sorted t c =
    let good = subst IsAvl c.in-Node.is c.self.invariant in
    let is = sym c.self.view_is ∙ ap shape_of c.in-Node.is in
    let n = c.in-Node.node.value in
    let q = c.args.key.now in
    let here = c.deref-in-Node.ensures ∙ ap (λ x. x.pair.value) c.deref.ensures in
    let p : slice_cmp nat_cmp q n.pair.value.key ≡ Equal = ap (λ x. slice_cmp nat_cmp q x.key) (sym here) ∙ sym c.compare.ensures ∙ c.in-Equal.is in
    let test : List ℕ → Bool = λ x. not (bytes_eq q x) in
    let only : OnlyFails (slice_cmp nat_cmp) q test = λ x. ap not (texts_ties q x) in
    let el = ap (λ d. (pairs d)) c.in_ok-copy-in-Some.ensures ∙ ap (λ x. (pairs x.left)) c.deref-in-Some.ensures in
    let rest = c.in_ok-split_first-in-Equal.ensures.pairs in
    let split : (pairs c.deref-in-Equal.result.now.right) ≡ pair_of c.in-Some.first.value ∷ (pairs c.in-Some.right) = rw c.in-Some.is at rest in
    let whole : (pairs n.right) ≡ pair_of c.in-Some.first.value ∷ (pairs c.in-Some.right) = ap (λ x. (pairs x.right)) (sym c.deref-in-Equal.ensures) ∙ split in
    sorted_joined {e = c.in-Some.first.value} el refl refl (subst (λ x. IsAscending ((pairs n.left) ++ x)) whole (sorted_remove_middle (slice_cmp nat_cmp) nat_list_cmp_total q test only (pairs n.left) (pair_of n.pair.value) (pairs n.right) p good.0))

pub returns-in_ok-copy-in-Less-clause-pairs : goal.returns-in_ok-copy-in-Less-clause-pairs
returns-in_ok-copy-in-Less-clause-pairs t c =
    let good = subst IsAvl c.in-Node.is c.self.invariant in
    let is = sym c.self.view_is ∙ ap shape_of c.in-Node.is in
    let n = c.in-Node.node.value in
    let q = c.args.key.now in
    let here = c.deref-in-Node.ensures ∙ ap (λ x. x.pair.value) c.deref.ensures in
    let p : slice_cmp nat_cmp q n.pair.value.key ≡ Less = ap (λ x. slice_cmp nat_cmp q x.key) (sym here) ∙ sym c.compare.ensures ∙ c.in-Less.is in
    let test : List ℕ → Bool = λ x. not (bytes_eq q x) in
    let only : OnlyFails (slice_cmp nat_cmp) q test = λ x. ap not (texts_ties q x) in
    let el = c.in_ok-left-in-Less.ensures.pairs ∙ ap (λ x. remove (pairs x.left) q) c.deref-in-Less.ensures in
    let ee = c.in_ok-try_clone-in-Less.ensures ∙ ap (λ x. x.pair.value) c.deref-in-Less-2.ensures in
    let er = ap (λ d. (pairs d)) c.in_ok-copy-in-Less.ensures ∙ ap (λ x. (pairs x.right)) c.deref-in-Less-3.ensures in
    subst (λ x. IfOk c.balance.result (λ y. (pairs y) ≡ x)) (joined el ee er ∙ sym (remove_left (slice_cmp nat_cmp) nat_list_cmp_total q test only (pairs n.left) (pair_of n.pair.value) (pairs n.right) p good.0) ∙ ap (λ d. remove (pairs d) q) (sym is)) c.balance.ensures.pairs

pub returns-in_ok-try_clone-in-Greater-clause-pairs : goal.returns-in_ok-try_clone-in-Greater-clause-pairs
returns-in_ok-try_clone-in-Greater-clause-pairs t c =
    let good = subst IsAvl c.in-Node.is c.self.invariant in
    let is = sym c.self.view_is ∙ ap shape_of c.in-Node.is in
    let n = c.in-Node.node.value in
    let q = c.args.key.now in
    let here = c.deref-in-Node.ensures ∙ ap (λ x. x.pair.value) c.deref.ensures in
    let p : slice_cmp nat_cmp q n.pair.value.key ≡ Greater = ap (λ x. slice_cmp nat_cmp q x.key) (sym here) ∙ sym c.compare.ensures ∙ c.in-Greater.is in
    let test : List ℕ → Bool = λ x. not (bytes_eq q x) in
    let only : OnlyFails (slice_cmp nat_cmp) q test = λ x. ap not (texts_ties q x) in
    let el = ap (λ d. (pairs d)) c.in_ok-copy-in-Greater.ensures ∙ ap (λ x. (pairs x.left)) c.deref-in-Greater-2.ensures in
    let ee = c.in_ok-try_clone-in-Greater.ensures ∙ ap (λ x. x.pair.value) c.deref-in-Greater-3.ensures in
    let er = c.in_ok-right-in-Greater.ensures.pairs ∙ ap (λ x. remove (pairs x.right) q) c.deref-in-Greater.ensures in
    subst (λ x. IfOk c.balance-in-Greater-2.result (λ y. (pairs y) ≡ x)) (joined el ee er ∙ sym (remove_right (slice_cmp nat_cmp) nat_list_cmp_total q test only (pairs n.left) (pair_of n.pair.value) (pairs n.right) p good.0) ∙ ap (λ d. remove (pairs d) q) (sym is)) c.balance-in-Greater-2.ensures.pairs

pub returns-in-None-clause-pairs : goal.returns-in-None-clause-pairs
returns-in-None-clause-pairs t c =
    let good = subst IsAvl c.in-Node.is c.self.invariant in
    let is = sym c.self.view_is ∙ ap shape_of c.in-Node.is in
    let n = c.in-Node.node.value in
    let q = c.args.key.now in
    let here = c.deref-in-Node.ensures ∙ ap (λ x. x.pair.value) c.deref.ensures in
    let p : slice_cmp nat_cmp q n.pair.value.key ≡ Equal = ap (λ x. slice_cmp nat_cmp q x.key) (sym here) ∙ sym c.compare.ensures ∙ c.in-Equal.is in
    let test : List ℕ → Bool = λ x. not (bytes_eq q x) in
    let only : OnlyFails (slice_cmp nat_cmp) q test = λ x. ap not (texts_ties q x) in
    let rest = c.in_ok-split_first-in-Equal.ensures.none in
    let none : c.deref-in-Equal.result.now.right ≡ Empty = rw c.in-None.is at rest in
    let whole : (pairs n.right) ≡ [] = ap (λ x. (pairs x.right)) (sym c.deref-in-Equal.ensures) ∙ ap (λ d. (pairs d)) none in
    if_ok-map (λ x h. ap (λ d. (pairs d)) h ∙ ap (λ x. (pairs x.left)) c.deref-in-None.ensures ∙ sym (append_nil (pairs n.left)) ∙ ap (λ r. (pairs n.left) ++ r) (sym whole) ∙ sym (remove_middle (slice_cmp nat_cmp) nat_list_cmp_total q test only (pairs n.left) (pair_of n.pair.value) (pairs n.right) p good.0) ∙ ap (λ d. remove (pairs d) q) (sym is)) c.copy-in-None.result c.copy-in-None.ensures

pub returns-in_ok-copy-in-Some-clause-pairs : goal.returns-in_ok-copy-in-Some-clause-pairs
returns-in_ok-copy-in-Some-clause-pairs t c =
    let good = subst IsAvl c.in-Node.is c.self.invariant in
    let is = sym c.self.view_is ∙ ap shape_of c.in-Node.is in
    let n = c.in-Node.node.value in
    let q = c.args.key.now in
    let here = c.deref-in-Node.ensures ∙ ap (λ x. x.pair.value) c.deref.ensures in
    let p : slice_cmp nat_cmp q n.pair.value.key ≡ Equal = ap (λ x. slice_cmp nat_cmp q x.key) (sym here) ∙ sym c.compare.ensures ∙ c.in-Equal.is in
    let test : List ℕ → Bool = λ x. not (bytes_eq q x) in
    let only : OnlyFails (slice_cmp nat_cmp) q test = λ x. ap not (texts_ties q x) in
    let el = ap (λ d. (pairs d)) c.in_ok-copy-in-Some.ensures ∙ ap (λ x. (pairs x.left)) c.deref-in-Some.ensures in
    let rest = c.in_ok-split_first-in-Equal.ensures.pairs in
    let split : (pairs c.deref-in-Equal.result.now.right) ≡ pair_of c.in-Some.first.value ∷ (pairs c.in-Some.right) = rw c.in-Some.is at rest in
    let whole : (pairs n.right) ≡ pair_of c.in-Some.first.value ∷ (pairs c.in-Some.right) = ap (λ x. (pairs x.right)) (sym c.deref-in-Equal.ensures) ∙ split in
    subst (λ x. IfOk c.balance-in-Some.result (λ y. (pairs y) ≡ x)) (joined {e = c.in-Some.first.value} el refl refl ∙ ap (λ r. (pairs n.left) ++ r) (sym whole) ∙ sym (remove_middle (slice_cmp nat_cmp) nat_list_cmp_total q test only (pairs n.left) (pair_of n.pair.value) (pairs n.right) p good.0) ∙ ap (λ d. remove (pairs d) q) (sym is)) c.balance-in-Some.ensures.pairs

pub returns-in-Leaf-clause-fresh : goal.returns-in-Leaf-clause-fresh
returns-in-Leaf-clause-fresh t c =
    let old = c.args.self.now in
    let m : ℕ = 3 * (height old + 1) in
    subst (λ s. AtMostFresh old s m) (sym c.empty.ensures) (empty_fresh old m)

pub returns-in_ok-copy-in-Less-clause-fresh : goal.returns-in_ok-copy-in-Less-clause-fresh
returns-in_ok-copy-in-Less-clause-fresh t c =
    let is = sym c.self.view_is ∙ ap shape_of c.in-Node.is in
    let good = subst IsAvl c.in-Node.is c.self.invariant in
    let n = c.in-Node.node.value in
    let e = pair_of n.pair.value in
    let old = Fork n.left e n.right n.height in
    let b : ℕ = 3 * (height n.left + 1) in
    let left_new = subst (λ s. AtMostFresh s c.in_ok-left-in-Less.left (3 * (height s + 1))) (ap (λ x. x.left) c.deref-in-Less.ensures) c.in_ok-left-in-Less.ensures.fresh in
    let er = c.in_ok-copy-in-Less.ensures ∙ ap (λ x. x.right) c.deref-in-Less-3.ensures in
    let right_new = subst (λ s. AtMostFresh old s 0) (sym er) (right_shared n.left e n.right n.height 0) in
    let all = c.balance.ensures.fresh old b 0 (under_left n.left e n.right n.height c.in_ok-left-in-Less.left b left_new) right_new in
    subst (λ s. IfOk c.balance.result (λ y. AtMostFresh s y (3 * (height s + 1)))) (sym is)
    (if_ok-map (λ x h. at_most-more old x (b + 0 + 3) (3 * (n.height + 1)) (omega (arith, good.1)) h) c.balance.result all)

pub returns-in_ok-try_clone-in-Greater-clause-fresh : goal.returns-in_ok-try_clone-in-Greater-clause-fresh
returns-in_ok-try_clone-in-Greater-clause-fresh t c =
    let is = sym c.self.view_is ∙ ap shape_of c.in-Node.is in
    let good = subst IsAvl c.in-Node.is c.self.invariant in
    let n = c.in-Node.node.value in
    let e = pair_of n.pair.value in
    let old = Fork n.left e n.right n.height in
    let b : ℕ = 3 * (height n.right + 1) in
    let right_new = subst (λ s. AtMostFresh s c.in_ok-right-in-Greater.right (3 * (height s + 1))) (ap (λ x. x.right) c.deref-in-Greater.ensures) c.in_ok-right-in-Greater.ensures.fresh in
    let el = c.in_ok-copy-in-Greater.ensures ∙ ap (λ x. x.left) c.deref-in-Greater-2.ensures in
    let left_new = subst (λ s. AtMostFresh old s 0) (sym el) (left_shared n.left e n.right n.height 0) in
    let all = c.balance-in-Greater-2.ensures.fresh old 0 b left_new (under_right n.left e n.right n.height c.in_ok-right-in-Greater.right b right_new) in
    subst (λ s. IfOk c.balance-in-Greater-2.result (λ y. AtMostFresh s y (3 * (height s + 1)))) (sym is)
    (if_ok-map (λ x h. at_most-more old x (0 + b + 3) (3 * (n.height + 1)) (omega (arith, good.1)) h) c.balance-in-Greater-2.result all)

pub returns-in-None-clause-fresh : goal.returns-in-None-clause-fresh
returns-in-None-clause-fresh t c =
    let is = sym c.self.view_is ∙ ap shape_of c.in-Node.is in
    let n = c.in-Node.node.value in
    let e = pair_of n.pair.value in
    let old = Fork n.left e n.right n.height in
    let m : ℕ = 3 * (n.height + 1) in
    subst (λ s. IfOk c.copy-in-None.result (λ y. AtMostFresh s y (3 * (height s + 1)))) (sym is)
    (if_ok-map (λ x h. subst (λ s. AtMostFresh old s m) (sym (h ∙ ap (λ x. x.left) c.deref-in-None.ensures)) (left_shared n.left e n.right n.height m)) c.copy-in-None.result c.copy-in-None.ensures)

pub returns-in_ok-copy-in-Some-clause-fresh : goal.returns-in_ok-copy-in-Some-clause-fresh
returns-in_ok-copy-in-Some-clause-fresh t c =
    let is = sym c.self.view_is ∙ ap shape_of c.in-Node.is in
    let good = subst IsAvl c.in-Node.is c.self.invariant in
    let n = c.in-Node.node.value in
    let e = pair_of n.pair.value in
    let old = Fork n.left e n.right n.height in
    let b : ℕ = 3 * height n.right in
    let found = c.in_ok-split_first-in-Equal.ensures.fresh in
    let split : AtMostFresh c.deref-in-Equal.result.now.right c.in-Some.right (3 * height c.deref-in-Equal.result.now.right) = rw c.in-Some.is at found in
    let right_new = subst (λ s. AtMostFresh s c.in-Some.right (3 * height s)) (ap (λ x. x.right) c.deref-in-Equal.ensures) split in
    let el = c.in_ok-copy-in-Some.ensures ∙ ap (λ x. x.left) c.deref-in-Some.ensures in
    let left_new = subst (λ s. AtMostFresh old s 0) (sym el) (left_shared n.left e n.right n.height 0) in
    let all = c.balance-in-Some.ensures.fresh old 0 b left_new (under_right n.left e n.right n.height c.in-Some.right b right_new) in
    subst (λ s. IfOk c.balance-in-Some.result (λ y. AtMostFresh s y (3 * (height s + 1)))) (sym is)
    (if_ok-map (λ x h. at_most-more old x (0 + b + 3) (3 * (n.height + 1)) (omega (arith, good.1)) h) c.balance-in-Some.result all)
