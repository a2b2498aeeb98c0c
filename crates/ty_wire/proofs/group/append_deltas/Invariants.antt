use Rattle.std.proofs.Common.{length, ◌-◌, ◌≤◌, drop}
use Rattle.ty_wire.specs.steps.Sent.{IsSent}
use Rattle.ty_wire.proofs.group.append_deltas.Given as goal

abbrev pub invariant-loop-from : goal.invariant-loop-from
invariant-loop-from l = record {
  within : l.from ≤ length l.deltas;
  sent : IsSent l.deltas (drop l.from l.deltas) l.fn.out.items l.out.items;
}

abbrev pub decreases-loop-from : goal.decreases-loop-from
decreases-loop-from l = length l.deltas - l.from
