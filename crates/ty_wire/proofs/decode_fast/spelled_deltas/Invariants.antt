use Rattle.std.proofs.Common.{◌-◌, length}
use Rattle.ty_base.specs.declared.limits.TheConstants.{MESSAGE_DELTAS}
use Rattle.ty_wire.specs.steps.Spelled.{ArePieces}
use Rattle.ty_wire.proofs.decode_fast.spelled_deltas.Given as goal

abbrev pub invariant-loop-rest : goal.invariant-loop-rest
invariant-loop-rest l = ArePieces l.bytes l.deltas l.rest

abbrev pub decreases-loop-rest : goal.decreases-loop-rest
decreases-loop-rest l = MESSAGE_DELTAS - length l.deltas
