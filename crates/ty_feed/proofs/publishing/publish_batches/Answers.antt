use Rattle.ty_feed.proofs.Books.{due_batch, due_few, due_step, due_stops, due_begins}
use Rattle.ty_feed.proofs.publishing.publish_batches.Goals as goal

pub loop-batch-init : goal.loop-batch-init
loop-batch-init g c = λ o. due_begins c.args.publisher.now c.args.closed.now o

pub publish_batch-requires-clause-batch : goal.publish_batch-requires-clause-batch
publish_batch-requires-clause-batch g c =
    due_batch c.args.publisher.now c.args.closed.now c.loop-batch.batch-index c.batch-item.result c.loop-batch-test.true c.batch-item.is c.requires

pub publish_batch-requires-clause-few : goal.publish_batch-requires-clause-few
publish_batch-requires-clause-few g c =
    due_few c.args.publisher.now c.args.closed.now c.loop-batch.batch-index c.batch-item.result c.loop-batch-test.true c.batch-item.is c.requires c.loop-batch.publisher (c.loop-batch.invariant c.requires)

pub loop-batch-preserved : goal.loop-batch-preserved
loop-batch-preserved g c = λ o.
    due_step c.args.publisher.now c.args.closed.now c.loop-batch.batch-index c.batch-item.result c.loop-batch-test.true c.batch-item.is o
    c.loop-batch.publisher c.publish_batch.new.publisher (c.loop-batch.invariant o) c.in-Ok.ensures.published

pub returns-in-Err : goal.returns-in-Err
returns-in-Err g c = λ o.
    due_stops c.args.publisher.now c.args.closed.now c.loop-batch.batch-index c.batch-item.result c.loop-batch-test.true c.batch-item.is o
    c.loop-batch.publisher c.publish_batch.new.publisher (c.loop-batch.invariant o) c.in-Err.ensures.same
