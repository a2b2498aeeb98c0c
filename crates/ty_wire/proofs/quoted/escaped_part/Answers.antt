use Rattle.std.proofs.Common.{arith, refl}
use Rattle.ty_wire.proofs.Escapes.{part-plain, part-byte}
use Rattle.ty_wire.proofs.quoted.escaped_part.Goals as goal

pub returns-then-count-text-clause-len : goal.returns-then-count-text-clause-len
returns-then-count-text-clause-len c =
    part-plain c.args.text.now c.plain_len-count.result c.plain_len-count.ensures.within c.plain_len-count.ensures.plain

pub returns-clause-len : goal.returns-clause-len
returns-clause-len c =
    let count = c.plain_len-count in
    omega (arith, c.escaped_byte_len.ensures.len, part-byte c.args.text.now count.result _ (omega arith) refl count.ensures.plain)
