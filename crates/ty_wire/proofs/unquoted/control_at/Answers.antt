use Rattle.std.proofs.Common.{arith}
use Rattle.ty_wire.proofs.Escapes.{control-text}
use Rattle.ty_wire.proofs.unquoted.control_at.Goals as goal

pub returns : goal.returns
returns c = rw (control-text c.seeming-byte.result c.letter.result c.letter.ensures (omega (arith, c.if-letter-gt0.false)) (omega (arith, c.if-byte-ge32.false)), ← c.hex.ensures, ← c.hex-2.ensures) c.in_ok-rest.ensures
