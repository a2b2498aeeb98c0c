use Rattle.std.proofs.Common.{arith, refl, rules}
use Rattle.ty_wire.proofs.Unescaped.{letter-front}
use Rattle.ty_wire.proofs.unquoted.escaped_at.Goals as goal

pub returns-in-Some : goal.returns-in-Some
returns-in-Some c = letter-front c.args.bytes.now c.in-Some.byte _ (omega arith) c.requires refl (search rules) (search rules)
