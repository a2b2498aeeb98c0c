use Rattle.std.proofs.Common.{◌≡◌, ◌+◌, ◌≤◌, ◌++◌, length, take}
use Rattle.json.specs.Print.{escape}
use Rattle.ty_wire.proofs.unquoted.unescape.Given as goal

abbrev pub invariant-loop-buf : goal.invariant-loop-buf
invariant-loop-buf l = (l.bytes ≡ escape (take l.end l.buf) ++ l.rest) × (l.end + length l.rest ≤ length l.bytes) × (length l.buf ≡ length l.fn.buf)

abbrev pub decreases-loop-buf : goal.decreases-loop-buf
decreases-loop-buf l = length l.rest
