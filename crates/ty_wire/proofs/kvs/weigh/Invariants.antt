use Rattle.std.proofs.Common.{◌≡◌, ◌*◌, ◌≤◌, take}
use Rattle.std.specs.List.{sum_by}
use Rattle.ty_wire.specs.Cut.{weight}
use Rattle.ty_wire.proofs.Utf8.{AllUtf8}
use Rattle.ty_wire.proofs.kvs.weigh.Given as goal

abbrev pub invariant-loop-delta : goal.invariant-loop-delta
invariant-loop-delta l = (l.weight ≡ sum_by weight (take l.delta-index l.deltas)) × (l.weight ≤ 1049600 * l.delta-index) × AllUtf8 (take l.delta-index l.deltas)
