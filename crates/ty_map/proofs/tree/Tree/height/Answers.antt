use Rattle.std.proofs.Common.{◌+◌, ◌^◌, ◌≤◌, length, ap, sym, subst, ◌∙◌}
use Rattle.ty_map.specs.Shape.{pairs, height, IsBalanced}
use Rattle.ty_map.specs.Nodes.{shape_of}
use Rattle.ty_map.proofs.Heights.{balanced_is_low, balanced_is_no_lower, root_is_balanced}
use Rattle.ty_map.proofs.tree.Tree.height.Goals as goal

pub returns-in-Node-clause-low : goal.returns-in-Node-clause-low
returns-in-Node-clause-low c =
    let t = c.args.self.now in
    let whole = subst IsBalanced c.self.view_is (root_is_balanced c.self.inside.root c.self.invariant) in
    let same = ap height (sym c.self.view_is ∙ ap shape_of c.in-Node.is) ∙ ap (λ n. n.height) (sym c.deref.ensures) in
    subst (λ x. 2 ^ x ≤ (length (pairs t) + 1) ^ 2) same (balanced_is_low t whole)

pub returns-in-Node-clause-high : goal.returns-in-Node-clause-high
returns-in-Node-clause-high c =
    let t = c.args.self.now in
    let whole = subst IsBalanced c.self.view_is (root_is_balanced c.self.inside.root c.self.invariant) in
    let same = ap height (sym c.self.view_is ∙ ap shape_of c.in-Node.is) ∙ ap (λ n. n.height) (sym c.deref.ensures) in
    subst (λ x. length (pairs t) + 1 ≤ 2 ^ x) same (balanced_is_no_lower t whole)
