use Rattle.std.proofs.Common.{◌≤◌, ◌-◌, length, drop}
use Rattle.json.specs.Print.{escape}
use Rattle.ty_wire.specs.steps.Placed.{PlacedSoFar}
use Rattle.ty_wire.proofs.quoted.place_escaped.Given as goal

abbrev pub invariant-loop-from : goal.invariant-loop-from
invariant-loop-from l = (l.from ≤ length l.text) × PlacedSoFar l.fn.buf l.buf l.at l.end (escape l.text) (escape (drop l.from l.text))

abbrev pub decreases-loop-from : goal.decreases-loop-from
decreases-loop-from l = length l.text - l.from
