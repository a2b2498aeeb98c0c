use Rattle.std.proofs.Common.{take}
use Rattle.ty_dedupe.specs.Pending.{BufferStands}
use Rattle.ty_crumb.proofs.successor.drained.Given as goal

abbrev pub invariant-loop-item : goal.invariant-loop-item
invariant-loop-item l = BufferStands l.buffer (take l.item-index l.items)
