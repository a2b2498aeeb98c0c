use Rattle.std.proofs.Common.{◌≤◌, ◌-◌, length, vec_capacity}
use Rattle.ty_wire.specs.Wire.{body}
use Rattle.ty_wire.specs.declared.message.Msg.TheVariants.{Kvs}
use Rattle.ty_wire.specs.steps.Placed.{ContinuedSoFar}
use Rattle.ty_wire.proofs.Continued.{left_of}
use Rattle.ty_wire.proofs.kvs.append_kvs.Given as goal

abbrev pub invariant-loop-count : goal.invariant-loop-count
invariant-loop-count l =
    (l.count ≤ length l.deltas) × (l.most ≤ vec_capacity l.out)
    × ContinuedSoFar l.fn.out.items l.out.items l.at l.end (body (Kvs l.deltas)) (left_of l.deltas l.count)

abbrev pub decreases-loop-count : goal.decreases-loop-count
decreases-loop-count l = length l.deltas - l.count
