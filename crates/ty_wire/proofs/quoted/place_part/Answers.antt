use Rattle.std.proofs.Common.{arith, refl}
use Rattle.ty_wire.proofs.Escapes as escapes
use Rattle.ty_wire.proofs.Placed.{part-plain, part-byte}
use Rattle.ty_wire.proofs.quoted.place_part.Goals as goal

pub returns-then-count-text-clause-placed : goal.returns-then-count-text-clause-placed
returns-then-count-text-clause-placed c =
    part-plain _ _ c.args.at c.place_plain-count.result c.args.text.now c.place_plain-count.ensures.plain c.place_plain-count.ensures.placed

pub place_byte-end-requires : goal.place_byte-end-requires
place_byte-end-requires c =
    let count = c.place_plain-count in
    omega (arith, c.requires.room, count.ensures.placed.len, escapes.part-byte c.args.text.now count.result _ (omega arith) refl count.ensures.plain)

pub returns-clause-placed : goal.returns-clause-placed
returns-clause-placed c =
    let count = c.place_plain-count in
    part-byte _ _ _ c.args.at count.result c.place_byte-end.result c.args.text.now _ (omega arith) refl count.ensures.plain count.ensures.placed c.place_byte-end.ensures
