use Rattle.std.specs.Vec.Iter.{into_iter_items}
use Rattle.ty_top.proofs.Published.{GivenTo}
use Rattle.ty_top.proofs.publisher.publish_all.Given as goal

abbrev pub invariant-loop-batch : goal.invariant-loop-batch
invariant-loop-batch g l = GivenTo l.from l.fn.crumb l.crumb l.fn.closed.items (into_iter_items l.batch-iterator) (g.K.Sink.seen l.fn.sink) (g.K.Sink.seen l.sink)
