use Rattle.std.proofs.Common.{◌≡◌, [], arith}
use Rattle.std.proofs.lemmas.Grind.{common_steps}
use Rattle.std.specs.Vec.Iter.{into_iter_items}
use Rattle.ty_crumb.proofs.Drained.{taken_none, taken_more, taken_all}
use Rattle.ty_crumb.proofs.successor.drained_of.Goals as goal

pub loop-item-init : goal.loop-item-init
loop-item-init c = taken_none _ _ _ c.new-buffer.ensures c.into_iter-item-iterator.ensures.into_iter_gives.0

pub loop-item-preserved : goal.loop-item-preserved
loop-item-preserved c = taken_more _ _ _ _ _ _ c.loop-item.invariant c.in-Some.ensures.steps.0 c.in_ok-take.ensures.ok

pub returns-clause-pairs : goal.returns-clause-pairs
returns-clause-pairs c =
    let end : into_iter_items c.loop-item.item-iterator ≡ [] = grind (arith, common_steps) in
    c.drain.ensures.pairs _ (taken_all _ _ _ c.loop-item.invariant end)

pub returns-clause-status : goal.returns-clause-status
returns-clause-status c =
    let end : into_iter_items c.loop-item.item-iterator ≡ [] = grind (arith, common_steps) in
    c.drain.ensures.status _ (taken_all _ _ _ c.loop-item.invariant end)
