use Rattle.std.proofs.Common.{length, ◌-◌, ◌≡◌, ◌≤◌, ◌<◌, take, drop}
use Rattle.std.specs.List.{sum_by}
use Rattle.ty_wire.specs.Cut.{weight, cut_on, cut_deltas}
use Rattle.ty_wire.proofs.cut.front_len.Given as goal

abbrev pub invariant-loop-len : goal.invariant-loop-len
invariant-loop-len l = record {
  some : 0 < l.len;
  within : l.len ≤ length l.deltas;
  weight : l.weight ≡ sum_by weight (take l.len l.deltas);
  cut : cut_deltas l.deltas ≡ cut_on (take l.len l.deltas) (drop l.len l.deltas);
}

abbrev pub decreases-loop-len : goal.decreases-loop-len
decreases-loop-len l = length l.deltas - l.len
