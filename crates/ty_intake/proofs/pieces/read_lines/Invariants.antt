use Rattle.std.proofs.Common.{length}
use Rattle.ty_intake.specs.steps.Progress.{IsAt}
use Rattle.ty_intake.proofs.pieces.read_lines.Given as goal

abbrev pub invariant-loop-line : goal.invariant-loop-line
invariant-loop-line l = IsAt l.fn.piece l.left l.fn.progress l.progress

abbrev pub decreases-loop-line : goal.decreases-loop-line
decreases-loop-line l = length l.left
