use Rattle.std.proofs.Common.{◌≡◌, ◌+◌, ◌++◌, ◌∷◌, max, length, length-append, arith, ap, sym, subst, ◌∙◌}
use Rattle.ty_map.specs.Shape.{pairs, height, IsBalanced}
use Rattle.ty_map.specs.Nodes.{pair_of}
use Rattle.ty_map.specs.steps.Tree.{IsSound}
use Rattle.ty_map.proofs.Heights.{root_is_balanced}
use Rattle.ty_map.proofs.tree.join.Goals as goal

pub invariant_of-result : goal.invariant_of-result
invariant_of-result c =
    let l = c.args.left in
    let r = c.args.right in
    let e = pair_of c.args.pair.value in
    let left_high = c.height.ensures.value in
    let right_high = c.height-2.ensures.value in
    let high : c.max-below.result + 1 ≡ max (height l) (height r) + 1 = ap (λ x. x + 1) c.max-below.ensures ∙ (λ i. max (left_high i) (right_high i) + 1) in
    let before = c.len-before.ensures.count in
    let after = c.len-after.ensures.count in
    let both = length-append (pairs l) (e ∷ pairs r) in
    let counted : c.len-before.result + c.len-after.result + 1 ≡ length (pairs l ++ e ∷ pairs r) = omega arith in
    subst IsSound (sym c.in_ok-new.ensures.ok) (
      c.requires.sorted,
      high,
      c.requires.balanced,
      counted,
      subst IsBalanced c.left.view_is (root_is_balanced c.left.inside.root c.left.invariant),
      subst IsBalanced c.right.view_is (root_is_balanced c.right.inside.root c.right.invariant),
    )
