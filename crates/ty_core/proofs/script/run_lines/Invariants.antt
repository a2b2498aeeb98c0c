use Rattle.std.proofs.Common.{◌≡◌, ◌<◌, ◌≤◌, ◌+◌, List, ℕ, length}
use Rattle.std.specs.Prelude.{Option}
use Rattle.ty_base.specs.declared.limits.TheConstants.{INPUT_BYTES}
use Rattle.ty_intake.specs.Lines.{Cut, cut_lines}
use Rattle.ty_core.specs.steps.Scripts.{IsScriptAt, followed}
use Rattle.ty_core.proofs.ScriptCuts.{RunsTo}
use Rattle.ty_core.proofs.script.run_lines.Given as goal

abbrev pub invariant-loop-line : goal.invariant-loop-line
invariant-loop-line g l = record {
  run : (c : Cut) (start : Option (List ℕ)) → IsScriptAt l.fn.world l.fn.script start (g.K.Sink.seen l.fn.sink).held c
      → RunsTo l.world l.script start (g.K.Sink.seen l.sink).held (followed c (cut_lines l.fn.bytes)) l.left;
  few : l.script.lines + length l.left < INPUT_BYTES;
  seen : l.script.seen ≡ l.fn.script.seen;
  later : (g.K.Sink.seen l.fn.sink).faults ≤ (g.K.Sink.seen l.sink).faults;
}

abbrev pub decreases-loop-line : goal.decreases-loop-line
decreases-loop-line g l = length l.left
