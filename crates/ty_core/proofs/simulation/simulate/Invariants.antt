use Rattle.std.proofs.Common.{◌≡◌, ◌-◌, ◌≤◌, length}
use Rattle.ty_base.specs.Devices.{seen}
use Rattle.ty_base.specs.declared.limits.TheConstants.{INPUT_BYTES, PIECE_BYTES}
use Rattle.ty_core.proofs.ScriptSources.{Running}
use Rattle.ty_core.proofs.simulation.simulate.Given as goal

abbrev pub invariant-loop-script : goal.invariant-loop-script
invariant-loop-script g l = record {
  piece : length l.piece.items ≡ PIECE_BYTES;
  running : Running l.world l.script (seen (g.S.Source.seen l.fn.source) (g.K.Sink.seen l.fn.sink)) (seen (g.S.Source.seen l.source) (g.K.Sink.seen l.sink));
  reads : (g.S.Source.seen l.fn.source).faults ≤ (g.S.Source.seen l.source).faults;
  writes : (g.K.Sink.seen l.fn.sink).faults ≤ (g.K.Sink.seen l.sink).faults;
}

abbrev pub decreases-loop-script : goal.decreases-loop-script
decreases-loop-script g l = INPUT_BYTES - l.script.seen
