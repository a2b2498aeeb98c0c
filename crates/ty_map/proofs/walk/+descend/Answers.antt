use Rattle.std.proofs.Common.{◌≡◌, ◌+◌, ◌≤◌, ◌<◌, ◌∷◌, length, vec_len, arith, ap, sym, ◌∙◌, subst}
use Rattle.std.specs.Prelude.{vec_capacity}
use Rattle.ty_map.specs.Shape.{height}
use Rattle.ty_map.specs.Stack.{stacked}
use Rattle.ty_map.specs.steps.Stack.{HasRoom}
use Rattle.ty_map.proofs.Stack.{stacked_push, length-stacked, more_room}
use Rattle.ty_map.proofs.walk.+descend.Goals as goal

pub descend-requires : goal.descend-requires
descend-requires t c =
    let was = c.args.stack.now in
    let is = c.push.new.self in
    let lower = c.in-Some.ensures.lower.0 in
    let counted : vec_len was ≡ length was.items = was.ok.0 in
    let same = length-stacked was.items in
    let falls : height c.in-Some.left.now < t = omega arith in
    let high : 0 < height c.args.tree.now = omega arith in
    let fits : height c.args.tree.now + length (stacked was.items) ≤ vec_capacity is = omega (arith, c.push.ensures.capacity) in
    let below : HasRoom (vec_capacity is) (stacked was.items) = more_room (vec_capacity was) (vec_capacity is) (stacked was.items) c.push.ensures.capacity c.requires.room in
    let whole : stacked is.items ≡ c.args.tree.now ∷ stacked was.items = ap stacked c.in-Ok.ensures.items ∙ stacked_push was.items c.args.tree in (
      falls,
      (
        subst (λ ts. HasRoom (vec_capacity is) ts) (sym whole) (high, fits, below),
        omega (arith, c.in-Ok.ensures.len, c.push.ensures.capacity),
      ),
    )
