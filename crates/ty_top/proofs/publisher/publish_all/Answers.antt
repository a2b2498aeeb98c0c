use Rattle.std.proofs.Common.{◌≡◌, [], arith}
use Rattle.std.proofs.lemmas.Grind.{common_steps}
use Rattle.std.specs.Vec.Iter.{into_iter_items}
use Rattle.ty_top.proofs.Published.{batch_owed, cut_owed, few_owed, published_begins, published_step, published_stops, published_ends}
use Rattle.ty_top.proofs.publisher.publish_all.Goals as goal

pub loop-batch-init : goal.loop-batch-init
loop-batch-init g c = published_begins c.args.from c.args.crumb.now _ _ _ c.into_iter-batch-iterator.ensures.into_iter_gives.0

pub publish-requires-clause-batch : goal.publish-requires-clause-batch
publish-requires-clause-batch g c = batch_owed _ _ _ _ _ _ c.in-Some.batch _ _ c.loop-batch.invariant c.in-Some.ensures.steps.0 c.requires

pub publish-requires-clause-later : goal.publish-requires-clause-later
publish-requires-clause-later g c = cut_owed _ _ _ _ _ _ c.in-Some.batch _ _ c.loop-batch.invariant c.in-Some.ensures.steps.0 c.requires

pub publish-requires-clause-few : goal.publish-requires-clause-few
publish-requires-clause-few g c = few_owed _ _ _ _ _ _ c.in-Some.batch _ _ c.loop-batch.invariant c.in-Some.ensures.steps.0 c.requires

pub loop-batch-preserved : goal.loop-batch-preserved
loop-batch-preserved g c = published_step _ _ _ _ _ _ _ c.in-Some.batch _ _ _ c.loop-batch.invariant c.in-Some.ensures.steps.0 c.in-Ok.ensures

pub returns-in-Err : goal.returns-in-Err
returns-in-Err g c = λ o. published_stops _ _ _ _ _ _ c.in-Some.batch _ _ c.loop-batch.invariant c.in-Some.ensures.steps.0 o c.in-Err.e _ _ c.in-Err.ensures

pub returns : goal.returns
returns g c = λ o.
    let end : into_iter_items c.loop-batch.batch-iterator ≡ [] = grind (arith, common_steps) in
    published_ends _ _ _ _ _ _ _ c.loop-batch.invariant end o
