use Rattle.std.proofs.Common.{◌≡◌, ◌-◌, ◌≤◌, length}
use Rattle.ty_base.specs.Devices.{seen}
use Rattle.ty_base.specs.declared.limits.TheConstants.{INPUT_BYTES, PIECE_BYTES}
use Rattle.ty_top.proofs.StreamReading.{Reading}
use Rattle.ty_top.proofs.stream.stream_source.Given as goal

abbrev pub invariant-loop-taken : goal.invariant-loop-taken
invariant-loop-taken g l = record {
  piece : length l.piece.items ≡ PIECE_BYTES;
  reading : Reading l.from l.intake l.crumb (seen (g.S.Source.seen l.fn.source) (g.K.Sink.seen l.fn.sink)) (seen (g.S.Source.seen l.source) (g.K.Sink.seen l.sink)) l.taken;
  reads : (g.S.Source.seen l.fn.source).faults ≤ (g.S.Source.seen l.source).faults;
  writes : (g.K.Sink.seen l.fn.sink).faults ≤ (g.K.Sink.seen l.sink).faults;
}

abbrev pub decreases-loop-taken : goal.decreases-loop-taken
decreases-loop-taken g l = INPUT_BYTES - l.taken
