use Rattle.std.proofs.Common.{arith}
use Rattle.ty_core.proofs.Published.{batch_is, some_is, cut_is, few_is, step_is, published_begins, published_all}
use Rattle.ty_core.proofs.publisher.publish_all.Goals as goal

pub loop-batch-init : goal.loop-batch-init
loop-batch-init c = record { more = omega arith; published = λ o. published_begins c.args.crumbs.now.items c.args.closed.now c.args.now o }

pub publish-requires-clause-some : goal.publish-requires-clause-some
publish-requires-clause-some c = some_is c.args.crumbs.now.items c.args.closed.now c.loop-batch.batch-index c.batch-item.result c.loop-batch-test.true c.batch-item.is c.requires c.loop-batch.crumbs.items c.args.now (c.loop-batch.invariant.published c.requires)

pub publish-requires-clause-batch : goal.publish-requires-clause-batch
publish-requires-clause-batch c = batch_is c.args.crumbs.now.items c.args.closed.now c.loop-batch.batch-index c.batch-item.result c.loop-batch-test.true c.batch-item.is c.requires

pub publish-requires-clause-later : goal.publish-requires-clause-later
publish-requires-clause-later c = cut_is c.args.crumbs.now.items c.args.closed.now c.loop-batch.batch-index c.batch-item.result c.loop-batch-test.true c.batch-item.is c.requires c.loop-batch.crumbs.items c.args.now (c.loop-batch.invariant.published c.requires)

pub publish-requires-clause-few : goal.publish-requires-clause-few
publish-requires-clause-few c = few_is c.args.crumbs.now.items c.args.closed.now c.loop-batch.batch-index c.batch-item.result c.loop-batch-test.true c.batch-item.is c.requires c.loop-batch.crumbs.items c.args.now (c.loop-batch.invariant.published c.requires)

pub loop-batch-preserved : goal.loop-batch-preserved
loop-batch-preserved c = record {
  more = omega (arith, c.loop-batch.invariant.more, c.publish.ensures.more);
  published = λ o.
      step_is c.args.crumbs.now.items c.args.closed.now c.loop-batch.batch-index c.batch-item.result c.loop-batch-test.true c.batch-item.is o c.loop-batch.crumbs.items c.args.now (c.loop-batch.invariant.published o) c.publish.new.crumbs.items c.in_ok-publish.ensures.ok;
}

pub returns : goal.returns
returns c = record {
  more = c.loop-batch.invariant.more;
  ok = λ o. published_all c.args.crumbs.now.items c.loop-batch.crumbs.items c.args.closed.now c.loop-batch.batch-index c.args.now o (omega arith) (c.loop-batch.invariant.published o);
}
