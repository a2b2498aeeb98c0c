use Rattle.std.proofs.Common.{arith, sym, ap, length}
use Rattle.ty_wire.proofs.Escapes.{letter-text, control-text, self-text}
use Rattle.ty_wire.proofs.quoted.escaped_byte_len.Goals as goal

pub returns-then-letter-gt0-clause-len : goal.returns-then-letter-gt0-clause-len
returns-then-letter-gt0-clause-len c = sym (ap length (letter-text c.args.byte c.letter.result c.letter.ensures (omega (arith, c.if-letter-gt0.true))))

pub returns-then-byte-lt32-clause-len : goal.returns-then-byte-lt32-clause-len
returns-then-byte-lt32-clause-len c = sym (ap length (control-text c.args.byte c.letter.result c.letter.ensures (omega (arith, c.if-letter-gt0.false)) (omega (arith, c.if-byte-lt32.true))))

pub returns-else-byte-lt32-clause-len : goal.returns-else-byte-lt32-clause-len
returns-else-byte-lt32-clause-len c = sym (ap length (self-text c.args.byte c.letter.result c.letter.ensures (omega (arith, c.if-letter-gt0.false)) (omega (arith, c.if-byte-lt32.false))))
