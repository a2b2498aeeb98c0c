use Rattle.std.proofs.Common.{◌++◌, take}
use Rattle.ty_intake.specs.Batches.{joined}
use Rattle.ty_feed.specs.steps.Reading.{AreDue, IsBookOf}
use Rattle.ty_feed.proofs.publishing.publish_batches.Given as goal

abbrev pub invariant-loop-batch : goal.invariant-loop-batch
invariant-loop-batch g l = (o : AreDue l.fn.publisher l.closed) → IsBookOf l.publisher (joined (o.done ++ take l.batch-index l.closed))
