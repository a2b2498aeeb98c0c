use Rattle.std.specs.Vec.Iter.{into_iter_items}
use Rattle.ty_crumb.specs.steps.Applied.{Applied}
use Rattle.ty_crumb.proofs.successor.changed_by.Given as goal

abbrev pub invariant-loop-key : goal.invariant-loop-key
invariant-loop-key l = Applied l.fn.last l.fn.pending.items l.map l.deltas (into_iter_items l.key-iterator)
