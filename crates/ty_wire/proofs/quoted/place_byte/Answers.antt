use Rattle.std.proofs.Common.{arith, ap, length}
use Rattle.ty_wire.proofs.Escapes.{letter-text, control-text, self-text}
use Rattle.ty_wire.proofs.quoted.place_byte.Goals as goal

pub place-requires : goal.place-requires
place-requires c = omega (arith, c.requires, ap length (letter-text c.args.byte c.letter-letter.result c.letter-letter.ensures (omega (arith, c.if-letter-gt0.true))))

pub place-requires-then-byte-lt32 : goal.place-requires-then-byte-lt32
place-requires-then-byte-lt32 c = omega (arith, c.requires, ap length (control-text c.args.byte c.letter-letter.result c.letter-letter.ensures (omega (arith, c.if-letter-gt0.false)) (omega (arith, c.if-byte-lt32.true))))

pub place-requires-else-byte-lt32 : goal.place-requires-else-byte-lt32
place-requires-else-byte-lt32 c = omega (arith, c.requires, ap length (self-text c.args.byte c.letter-letter.result c.letter-letter.ensures (omega (arith, c.if-letter-gt0.false)) (omega (arith, c.if-byte-lt32.false))))

pub returns-then-letter-gt0 : goal.returns-then-letter-gt0
returns-then-letter-gt0 c = rw (letter-text c.args.byte c.letter-letter.result c.letter-letter.ensures (omega (arith, c.if-letter-gt0.true))) c.place.ensures

pub returns-then-byte-lt32 : goal.returns-then-byte-lt32
returns-then-byte-lt32 c = rw (control-text c.args.byte c.letter-letter.result c.letter-letter.ensures (omega (arith, c.if-letter-gt0.false)) (omega (arith, c.if-byte-lt32.true)), ← c.hex.ensures, ← c.hex-then-byte-lt32.ensures) c.place-then-byte-lt32.ensures

pub returns-else-byte-lt32 : goal.returns-else-byte-lt32
returns-else-byte-lt32 c = rw (self-text c.args.byte c.letter-letter.result c.letter-letter.ensures (omega (arith, c.if-letter-gt0.false)) (omega (arith, c.if-byte-lt32.false))) c.place-else-byte-lt32.ensures
