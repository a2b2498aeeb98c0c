use Rattle.std.proofs.Common.{◌≡◌, Less, Equal, Greater, ap, sym, ◌∙◌, subst}
use Rattle.std.specs.Prelude.{Some}
use Rattle.std.specs.Ordering.{nat_cmp}
use Rattle.std.specs.Cmp.Lexicographic.{slice_cmp, nat_list_cmp_total}
use Rattle.ty_base.specs.Feed.{get}
use Rattle.ty_map.specs.Shape.{pairs}
use Rattle.ty_map.specs.Nodes.{pair_of, shape_of}
use Rattle.ty_map.specs.steps.Tree.{IsAvl}
use Rattle.ty_map.proofs.Order.{find_left, find_right, find_middle}
use Rattle.ty_map.proofs.tree.Tree.+get.Goals as goal

pub returns-in-Less : goal.returns-in-Less
returns-in-Less t c =
    let good = subst IsAvl c.in-Node.is c.self.invariant in
    let is = sym c.self.view_is ∙ ap shape_of c.in-Node.is in
    let n = c.in-Node.node.value in
    let q = c.args.key.now in
    let here = c.deref-in-Node.ensures ∙ ap (λ x. x.pair.value) c.deref.ensures in
    let p : slice_cmp nat_cmp q n.pair.value.key ≡ Less = ap (λ x. slice_cmp nat_cmp q x.key) (sym here) ∙ sym c.compare.ensures ∙ c.in-Less.is in
    c.get.ensures ∙ ap (λ x. get (pairs x.left) q) c.deref-in-Less.ensures ∙ sym (find_left (slice_cmp nat_cmp) nat_list_cmp_total q (pairs n.left) (pair_of n.pair.value) (pairs n.right) p good.0) ∙ ap (λ d. get (pairs d) q) (sym is)

pub returns-in-Greater : goal.returns-in-Greater
returns-in-Greater t c =
    let good = subst IsAvl c.in-Node.is c.self.invariant in
    let is = sym c.self.view_is ∙ ap shape_of c.in-Node.is in
    let n = c.in-Node.node.value in
    let q = c.args.key.now in
    let here = c.deref-in-Node.ensures ∙ ap (λ x. x.pair.value) c.deref.ensures in
    let p : slice_cmp nat_cmp q n.pair.value.key ≡ Greater = ap (λ x. slice_cmp nat_cmp q x.key) (sym here) ∙ sym c.compare.ensures ∙ c.in-Greater.is in
    c.get-in-Greater.ensures ∙ ap (λ x. get (pairs x.right) q) c.deref-in-Greater.ensures ∙ sym (find_right (slice_cmp nat_cmp) nat_list_cmp_total q (pairs n.left) (pair_of n.pair.value) (pairs n.right) p good.0) ∙ ap (λ d. get (pairs d) q) (sym is)

pub returns-in-Equal : goal.returns-in-Equal
returns-in-Equal t c =
    let good = subst IsAvl c.in-Node.is c.self.invariant in
    let is = sym c.self.view_is ∙ ap shape_of c.in-Node.is in
    let n = c.in-Node.node.value in
    let q = c.args.key.now in
    let here = c.deref-in-Node.ensures ∙ ap (λ x. x.pair.value) c.deref.ensures in
    let p : slice_cmp nat_cmp q n.pair.value.key ≡ Equal = ap (λ x. slice_cmp nat_cmp q x.key) (sym here) ∙ sym c.compare.ensures ∙ c.in-Equal.is in
    let there = c.deref-in-Equal-2.ensures ∙ ap (λ x. x.pair.value) c.deref-in-Equal.ensures in
    ap (λ x. Some x.value) there ∙ sym (find_middle (slice_cmp nat_cmp) nat_list_cmp_total q (pairs n.left) (pair_of n.pair.value) (pairs n.right) p good.0) ∙ ap (λ d. get (pairs d) q) (sym is)
