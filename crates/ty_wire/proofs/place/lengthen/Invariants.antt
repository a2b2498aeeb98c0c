use Rattle.std.proofs.Common.{◌≡◌, ◌-◌, ◌≤◌, take, vec_len, vec_capacity}
use Rattle.ty_wire.proofs.place.lengthen.Given as goal

abbrev pub invariant-loop-out : goal.invariant-loop-out
invariant-loop-out l =
    (take (vec_len l.fn.out) l.out.items ≡ l.fn.out.items) × (vec_len l.fn.out ≤ vec_len l.out) × (vec_capacity l.fn.out ≤ vec_capacity l.out)

abbrev pub decreases-loop-out : goal.decreases-loop-out
decreases-loop-out l = l.wanted - vec_len l.out
