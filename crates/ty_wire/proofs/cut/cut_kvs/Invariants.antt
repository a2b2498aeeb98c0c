use Rattle.std.proofs.Common.{length, ◌-◌, ◌≡◌, ◌≤◌, ◌++◌, drop}
use Rattle.ty_wire.specs.Cut.{cut_deltas}
use Rattle.ty_wire.proofs.cut.cut_kvs.Given as goal

abbrev pub invariant-loop-from : goal.invariant-loop-from
invariant-loop-from l = record {
  within : l.from ≤ length l.deltas;
  cut : cut_deltas l.deltas ≡ l.parts.items ++ cut_deltas (drop l.from l.deltas);
}

abbrev pub decreases-loop-from : goal.decreases-loop-from
decreases-loop-from l = length l.deltas - l.from
