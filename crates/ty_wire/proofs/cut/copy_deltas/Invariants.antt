use Rattle.std.proofs.Common.{◌≡◌, take}
use Rattle.ty_wire.proofs.cut.copy_deltas.Given as goal

abbrev pub invariant-loop-delta : goal.invariant-loop-delta
invariant-loop-delta l = l.copies ≡ take l.delta-index l.deltas
