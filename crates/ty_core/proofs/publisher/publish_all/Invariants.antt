use Rattle.std.proofs.Common.{◌≤◌, ◌++◌, length, take}
use Rattle.ty_intake.specs.Batches.{joined}
use Rattle.ty_core.specs.steps.Chains.{AreOwed, ArePublished}
use Rattle.ty_core.proofs.publisher.publish_all.Given as goal

abbrev pub invariant-loop-batch : goal.invariant-loop-batch
invariant-loop-batch l = record {
  more : length l.fn.crumbs.items ≤ length l.crumbs.items;
  published : (o : AreOwed l.fn.crumbs.items l.closed) → ArePublished l.fn.crumbs.items l.crumbs.items l.now (joined o.done) (joined (o.done ++ take l.batch-index l.closed));
}
