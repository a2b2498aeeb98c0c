use Rattle.std.proofs.Common.{◌+◌, ap, sym, ◌∙◌}
use Rattle.ty_map.specs.Fresh.{fresh}
use Rattle.ty_map.specs.Nodes.{pair_of}
use Rattle.ty_map.specs.Shape.{height}
use Rattle.ty_map.proofs.FreshCounts.{fresh-subtree, fresh_is}
use Rattle.ty_map.proofs.fresh.+fresh_in.Goals as goal

pub returns-in_default-clause-value : goal.returns-in_default-clause-value
unfolding fresh
returns-in_default-clause-value t c = sym (ap (fresh c.args.old.now) c.in_default.ensures.none)

pub returns-then-is_part-clause-value : goal.returns-then-is_part-clause-value
returns-then-is_part-clause-value t c = sym (fresh-subtree c.args.old.now c.args.new.now (sym c.is_part.ensures ∙ c.if-is_part.true))

pub returns-clause-value : goal.returns-clause-value
returns-clause-value t c =
    let old = c.args.old.now in
    let new = c.args.new.now in
    let left = c.fresh_in.ensures.value in
    let right = c.fresh_in-2.ensures.value in
    let is = fresh_is old new c.in-Some.left.now (pair_of c.in-Some.field-0-1.now) c.in-Some.right.now (height new) c.in-Some.ensures.some (sym c.is_part.ensures ∙ c.if-is_part.false) in
    (λ i. 1 + left i + right i) ∙ sym is
