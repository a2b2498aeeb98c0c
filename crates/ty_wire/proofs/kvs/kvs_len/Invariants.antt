use Rattle.std.proofs.Common.{◌≡◌, ◌+◌, ◌*◌, ◌≤◌, length, take, drop}
use Rattle.ty_wire.specs.Wire.{more_deltas}
use Rattle.ty_wire.proofs.Utf8.{AllUtf8}
use Rattle.ty_wire.proofs.kvs.kvs_len.Given as goal

abbrev pub invariant-loop-delta : goal.invariant-loop-delta
invariant-loop-delta l =
    (l.len + length (more_deltas (drop l.delta-index l.deltas)) ≡ 18 + length (more_deltas l.deltas))
    × (l.len ≤ 18 + 7000001 * l.delta-index) × AllUtf8 (take l.delta-index l.deltas)
