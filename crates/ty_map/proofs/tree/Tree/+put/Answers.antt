use Rattle.std.proofs.Common.{◌≡◌, ◌+◌, ◌*◌, ℕ, arith, ◌++◌, ◌∷◌, Less, Equal, Greater, ap, sym, ◌∙◌, subst, refl}
use Rattle.std.specs.Prelude.{IfOk}
use Rattle.std.specs.Ordering.{nat_cmp}
use Rattle.std.specs.Cmp.Lexicographic.{slice_cmp, nat_list_cmp_total}
use Rattle.std.specs.FinMap.{slice_cmp-IsAntisymmetric, nat_cmp-IsAntisymmetric}
use Rattle.ty_base.specs.Feed.{insert}
use Rattle.ty_map.specs.Ascending.{IsAscending}
use Rattle.ty_map.specs.Shape.{Empty, Fork, pairs, height}
use Rattle.ty_map.specs.Nodes.{pair_of, shape_of}
use Rattle.ty_map.specs.steps.Tree.{IsAvl, AtMostFresh}
use Rattle.ty_map.proofs.FreshCounts.{node_same, made_node, empty_fresh, at_most-more, under_left, under_right, left_shared, right_shared}
use Rattle.ty_map.proofs.Nodes.{joined, sorted_joined, if_ok-map}
use Rattle.ty_map.proofs.Order.{put_left, put_right, put_middle, sorted_put_left, sorted_put_right, sorted_put_middle}
use Rattle.ty_map.proofs.tree.Tree.+put.Goals as goal

pub balance-requires-clause-sorted : goal.balance-requires-clause-sorted
balance-requires-clause-sorted t c =
    let good = subst IsAvl c.in-Node.is c.self.invariant in
    let is = sym c.self.view_is ∙ ap shape_of c.in-Node.is in
    let n = c.in-Node.node.value in
    let a = c.args.pair.value in
    let here = c.deref-in-Node-2.ensures ∙ ap (λ x. x.pair.value) c.deref-in-Node.ensures in
    let mine = c.deref.ensures in
    let p : slice_cmp nat_cmp a.key n.pair.value.key ≡ Less = ap (λ x. slice_cmp nat_cmp a.key x.key) (sym here) ∙ ap (λ x. slice_cmp nat_cmp x.key c.deref-in-Node-2.result.now.key) (sym mine) ∙ sym c.compare.ensures ∙ c.in-Less.is in
    let el = c.in_ok-left-in-Less.ensures.pairs ∙ ap (λ x. insert (pairs x.left) a.key a.value) c.deref-in-Less.ensures in
    let ee = c.in_ok-try_clone-in-Less.ensures ∙ ap (λ x. x.pair.value) c.deref-in-Less-2.ensures in
    let er = ap (λ d. (pairs d)) c.in_ok-copy-in-Less.ensures ∙ ap (λ x. (pairs x.right)) c.deref-in-Less-3.ensures in
    sorted_joined el ee er (sorted_put_left (slice_cmp nat_cmp) nat_list_cmp_total a.key a.value (pairs n.left) (pair_of n.pair.value) (pairs n.right) p good.0)

pub balance-requires-in-Greater-clause-sorted : goal.balance-requires-in-Greater-clause-sorted
balance-requires-in-Greater-clause-sorted t c =
    let good = subst IsAvl c.in-Node.is c.self.invariant in
    let is = sym c.self.view_is ∙ ap shape_of c.in-Node.is in
    let n = c.in-Node.node.value in
    let a = c.args.pair.value in
    let here = c.deref-in-Node-2.ensures ∙ ap (λ x. x.pair.value) c.deref-in-Node.ensures in
    let mine = c.deref.ensures in
    let p : slice_cmp nat_cmp a.key n.pair.value.key ≡ Greater = ap (λ x. slice_cmp nat_cmp a.key x.key) (sym here) ∙ ap (λ x. slice_cmp nat_cmp x.key c.deref-in-Node-2.result.now.key) (sym mine) ∙ sym c.compare.ensures ∙ c.in-Greater.is in
    let el = ap (λ d. (pairs d)) c.in_ok-copy-in-Greater.ensures ∙ ap (λ x. (pairs x.left)) c.deref-in-Greater-2.ensures in
    let ee = c.in_ok-try_clone-in-Greater.ensures ∙ ap (λ x. x.pair.value) c.deref-in-Greater-3.ensures in
    let er = c.in_ok-right-in-Greater.ensures.pairs ∙ ap (λ x. insert (pairs x.right) a.key a.value) c.deref-in-Greater.ensures in
    sorted_joined el ee er (sorted_put_right (slice_cmp nat_cmp) nat_list_cmp_total a.key a.value (pairs n.left) (pair_of n.pair.value) (pairs n.right) p good.0)

pub join-requires-in-Equal-clause-sorted : goal.join-requires-in-Equal-clause-sorted
join-requires-in-Equal-clause-sorted t c =
    let good = subst IsAvl c.in-Node.is c.self.invariant in
    let is = sym c.self.view_is ∙ ap shape_of c.in-Node.is in
    let n = c.in-Node.node.value in
    let a = c.args.pair.value in
    let here = c.deref-in-Node-2.ensures ∙ ap (λ x. x.pair.value) c.deref-in-Node.ensures in
    let mine = c.deref.ensures in
    let p : slice_cmp nat_cmp a.key n.pair.value.key ≡ Equal = ap (λ x. slice_cmp nat_cmp a.key x.key) (sym here) ∙ ap (λ x. slice_cmp nat_cmp x.key c.deref-in-Node-2.result.now.key) (sym mine) ∙ sym c.compare.ensures ∙ c.in-Equal.is in
    let el = ap (λ d. (pairs d)) c.in_ok-copy-in-Equal.ensures ∙ ap (λ x. (pairs x.left)) c.deref-in-Equal.ensures in
    let er = ap (λ d. (pairs d)) c.in_ok-copy-in-Equal-2.ensures ∙ ap (λ x. (pairs x.right)) c.deref-in-Equal-2.ensures in
    let same = slice_cmp-IsAntisymmetric nat_cmp-IsAntisymmetric a.key n.pair.value.key p in
    let middle : (n.pair.value.key, a.value) ≡ pair_of a = λ i. (sym same i, a.value) in
    sorted_joined el refl er (subst (λ x. IsAscending ((pairs n.left) ++ x ∷ (pairs n.right))) middle (sorted_put_middle (slice_cmp nat_cmp) nat_list_cmp_total a.key a.value (pairs n.left) (pair_of n.pair.value) (pairs n.right) p good.0))

pub returns-in_ok-copy-in-Less-clause-pairs : goal.returns-in_ok-copy-in-Less-clause-pairs
returns-in_ok-copy-in-Less-clause-pairs t c =
    let good = subst IsAvl c.in-Node.is c.self.invariant in
    let is = sym c.self.view_is ∙ ap shape_of c.in-Node.is in
    let n = c.in-Node.node.value in
    let a = c.args.pair.value in
    let here = c.deref-in-Node-2.ensures ∙ ap (λ x. x.pair.value) c.deref-in-Node.ensures in
    let mine = c.deref.ensures in
    let p : slice_cmp nat_cmp a.key n.pair.value.key ≡ Less = ap (λ x. slice_cmp nat_cmp a.key x.key) (sym here) ∙ ap (λ x. slice_cmp nat_cmp x.key c.deref-in-Node-2.result.now.key) (sym mine) ∙ sym c.compare.ensures ∙ c.in-Less.is in
    let el = c.in_ok-left-in-Less.ensures.pairs ∙ ap (λ x. insert (pairs x.left) a.key a.value) c.deref-in-Less.ensures in
    let ee = c.in_ok-try_clone-in-Less.ensures ∙ ap (λ x. x.pair.value) c.deref-in-Less-2.ensures in
    let er = ap (λ d. (pairs d)) c.in_ok-copy-in-Less.ensures ∙ ap (λ x. (pairs x.right)) c.deref-in-Less-3.ensures in
    subst (λ x. IfOk c.balance.result (λ y. (pairs y) ≡ x)) (joined el ee er ∙ sym (put_left (slice_cmp nat_cmp) a.key a.value (pairs n.left) (pair_of n.pair.value) (pairs n.right) p) ∙ ap (λ d. insert (pairs d) a.key a.value) (sym is)) c.balance.ensures.pairs

pub returns-in_ok-try_clone-in-Greater-clause-pairs : goal.returns-in_ok-try_clone-in-Greater-clause-pairs
returns-in_ok-try_clone-in-Greater-clause-pairs t c =
    let good = subst IsAvl c.in-Node.is c.self.invariant in
    let is = sym c.self.view_is ∙ ap shape_of c.in-Node.is in
    let n = c.in-Node.node.value in
    let a = c.args.pair.value in
    let here = c.deref-in-Node-2.ensures ∙ ap (λ x. x.pair.value) c.deref-in-Node.ensures in
    let mine = c.deref.ensures in
    let p : slice_cmp nat_cmp a.key n.pair.value.key ≡ Greater = ap (λ x. slice_cmp nat_cmp a.key x.key) (sym here) ∙ ap (λ x. slice_cmp nat_cmp x.key c.deref-in-Node-2.result.now.key) (sym mine) ∙ sym c.compare.ensures ∙ c.in-Greater.is in
    let el = ap (λ d. (pairs d)) c.in_ok-copy-in-Greater.ensures ∙ ap (λ x. (pairs x.left)) c.deref-in-Greater-2.ensures in
    let ee = c.in_ok-try_clone-in-Greater.ensures ∙ ap (λ x. x.pair.value) c.deref-in-Greater-3.ensures in
    let er = c.in_ok-right-in-Greater.ensures.pairs ∙ ap (λ x. insert (pairs x.right) a.key a.value) c.deref-in-Greater.ensures in
    subst (λ x. IfOk c.balance-in-Greater-2.result (λ y. (pairs y) ≡ x)) (joined el ee er ∙ sym (put_right (slice_cmp nat_cmp) nat_list_cmp_total a.key a.value (pairs n.left) (pair_of n.pair.value) (pairs n.right) p good.0) ∙ ap (λ d. insert (pairs d) a.key a.value) (sym is)) c.balance-in-Greater-2.ensures.pairs

pub returns-in_ok-copy-in-Equal-2-clause-pairs : goal.returns-in_ok-copy-in-Equal-2-clause-pairs
returns-in_ok-copy-in-Equal-2-clause-pairs t c =
    let good = subst IsAvl c.in-Node.is c.self.invariant in
    let is = sym c.self.view_is ∙ ap shape_of c.in-Node.is in
    let n = c.in-Node.node.value in
    let a = c.args.pair.value in
    let here = c.deref-in-Node-2.ensures ∙ ap (λ x. x.pair.value) c.deref-in-Node.ensures in
    let mine = c.deref.ensures in
    let p : slice_cmp nat_cmp a.key n.pair.value.key ≡ Equal = ap (λ x. slice_cmp nat_cmp a.key x.key) (sym here) ∙ ap (λ x. slice_cmp nat_cmp x.key c.deref-in-Node-2.result.now.key) (sym mine) ∙ sym c.compare.ensures ∙ c.in-Equal.is in
    let el = ap (λ d. (pairs d)) c.in_ok-copy-in-Equal.ensures ∙ ap (λ x. (pairs x.left)) c.deref-in-Equal.ensures in
    let er = ap (λ d. (pairs d)) c.in_ok-copy-in-Equal-2.ensures ∙ ap (λ x. (pairs x.right)) c.deref-in-Equal-2.ensures in
    let same = slice_cmp-IsAntisymmetric nat_cmp-IsAntisymmetric a.key n.pair.value.key p in
    let middle : (n.pair.value.key, a.value) ≡ pair_of a = λ i. (sym same i, a.value) in
    let whole = joined {e = a} el refl er ∙ ap (λ x. (pairs n.left) ++ x ∷ (pairs n.right)) (sym middle) ∙ sym (put_middle (slice_cmp nat_cmp) nat_list_cmp_total a.key a.value (pairs n.left) (pair_of n.pair.value) (pairs n.right) p good.0) ∙ ap (λ d. insert (pairs d) a.key a.value) (sym is) in if_ok-map (λ x h. ap (λ d. (pairs d)) h ∙ whole) c.join-in-Equal-2.result c.join-in-Equal-2.ensures

pub returns-in-Leaf-clause-fresh : goal.returns-in-Leaf-clause-fresh
returns-in-Leaf-clause-fresh t c =
    let old = c.args.self.now in
    let m : ℕ = 3 * (height old + 1) in
    let new = made_node old Empty (pair_of c.args.pair.value) Empty 0 0 m (empty_fresh old 0) (empty_fresh old 0) (omega arith) in
    if_ok-map (λ x h. subst (λ s. AtMostFresh old s m) (sym (h ∙ node_same {e = pair_of c.args.pair.value} c.empty.ensures refl c.empty-in-Leaf.ensures)) new) c.join.result c.join.ensures

pub returns-in_ok-copy-in-Less-clause-fresh : goal.returns-in_ok-copy-in-Less-clause-fresh
returns-in_ok-copy-in-Less-clause-fresh t c =
    let is = sym c.self.view_is ∙ ap shape_of c.in-Node.is in
    let good = subst IsAvl c.in-Node.is c.self.invariant in
    let n = c.in-Node.node.value in
    let a = c.args.pair.value in
    let e = pair_of n.pair.value in
    let old = Fork n.left e n.right n.height in
    let b : ℕ = 3 * (height n.left + 1) in
    let put_new = subst (λ s. AtMostFresh s c.in_ok-left-in-Less.left (3 * (height s + 1))) (ap (λ x. x.left) c.deref-in-Less.ensures) c.in_ok-left-in-Less.ensures.fresh in
    let er = c.in_ok-copy-in-Less.ensures ∙ ap (λ x. x.right) c.deref-in-Less-3.ensures in
    let right_new = subst (λ s. AtMostFresh old s 0) (sym er) (right_shared n.left e n.right n.height 0) in
    let all = c.balance.ensures.fresh old b 0 (under_left n.left e n.right n.height c.in_ok-left-in-Less.left b put_new) right_new in
    subst (λ s. IfOk c.balance.result (λ y. AtMostFresh s y (3 * (height s + 1)))) (sym is)
    (if_ok-map (λ x h. at_most-more old x (b + 0 + 3) (3 * (n.height + 1)) (omega (arith, good.1)) h) c.balance.result all)

pub returns-in_ok-try_clone-in-Greater-clause-fresh : goal.returns-in_ok-try_clone-in-Greater-clause-fresh
returns-in_ok-try_clone-in-Greater-clause-fresh t c =
    let is = sym c.self.view_is ∙ ap shape_of c.in-Node.is in
    let good = subst IsAvl c.in-Node.is c.self.invariant in
    let n = c.in-Node.node.value in
    let a = c.args.pair.value in
    let e = pair_of n.pair.value in
    let old = Fork n.left e n.right n.height in
    let b : ℕ = 3 * (height n.right + 1) in
    let put_new = subst (λ s. AtMostFresh s c.in_ok-right-in-Greater.right (3 * (height s + 1))) (ap (λ x. x.right) c.deref-in-Greater.ensures) c.in_ok-right-in-Greater.ensures.fresh in
    let el = c.in_ok-copy-in-Greater.ensures ∙ ap (λ x. x.left) c.deref-in-Greater-2.ensures in
    let left_new = subst (λ s. AtMostFresh old s 0) (sym el) (left_shared n.left e n.right n.height 0) in
    let all = c.balance-in-Greater-2.ensures.fresh old 0 b left_new (under_right n.left e n.right n.height c.in_ok-right-in-Greater.right b put_new) in
    subst (λ s. IfOk c.balance-in-Greater-2.result (λ y. AtMostFresh s y (3 * (height s + 1)))) (sym is)
    (if_ok-map (λ x h. at_most-more old x (0 + b + 3) (3 * (n.height + 1)) (omega (arith, good.1)) h) c.balance-in-Greater-2.result all)

pub returns-in_ok-copy-in-Equal-2-clause-fresh : goal.returns-in_ok-copy-in-Equal-2-clause-fresh
returns-in_ok-copy-in-Equal-2-clause-fresh t c =
    let is = sym c.self.view_is ∙ ap shape_of c.in-Node.is in
    let good = subst IsAvl c.in-Node.is c.self.invariant in
    let n = c.in-Node.node.value in
    let a = c.args.pair.value in
    let e = pair_of n.pair.value in
    let old = Fork n.left e n.right n.height in
    let m : ℕ = 3 * (n.height + 1) in
    let el = c.in_ok-copy-in-Equal.ensures ∙ ap (λ x. x.left) c.deref-in-Equal.ensures in
    let er = c.in_ok-copy-in-Equal-2.ensures ∙ ap (λ x. x.right) c.deref-in-Equal-2.ensures in
    let new = made_node old n.left (pair_of a) n.right 0 0 m (left_shared n.left e n.right n.height 0) (right_shared n.left e n.right n.height 0) (omega arith) in
    subst (λ s. IfOk c.join-in-Equal-2.result (λ y. AtMostFresh s y (3 * (height s + 1)))) (sym is)
    (if_ok-map (λ x h. subst (λ s. AtMostFresh old s m) (sym (h ∙ node_same {e = pair_of a} el refl er)) new) c.join-in-Equal-2.result c.join-in-Equal-2.ensures)
