use Rattle.std.proofs.Common.{arith, refl}
use Rattle.ty_wire.proofs.Unescaped.{self-front}
use Rattle.ty_wire.proofs.unquoted.byte_at.Goals as goal

pub returns : goal.returns
returns c = self-front c.args.bytes.now _ c.letter.result refl c.letter.ensures (omega (arith, c.if-letter-gt0.false)) (omega (arith, c.if-byte-lt32.false))
