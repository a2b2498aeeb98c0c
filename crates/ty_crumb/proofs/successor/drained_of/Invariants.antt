use Rattle.std.specs.Vec.Iter.{into_iter_items}
use Rattle.ty_crumb.proofs.Drained.{DrainsTo}
use Rattle.ty_crumb.proofs.successor.drained_of.Given as goal

abbrev pub invariant-loop-item : goal.invariant-loop-item
invariant-loop-item l = DrainsTo l.buffer l.fn.items.items (into_iter_items l.item-iterator)
