use Rattle.std.proofs.Common.{}
use Rattle.std.proofs.lemmas.List.{take_rest}
use Rattle.ty_wire.proofs.Unescaped.{reads-plain, reads-byte}
use Rattle.ty_wire.proofs.unquoted.unescape_part.Goals as goal

pub returns-in-Some : goal.returns-in-Some
returns-in-Some c =
    let bytes = c.args.bytes.now in
    let count = c.place_plain-count in
    reads-byte _ _ _ bytes _ c.in-Some.rest.now c.args.at count.result c.in-Some.byte c.place.result count.ensures.within count.ensures.plain count.ensures.placed (take_rest bytes count.result) c.in-Some.ensures c.place.ensures

pub returns-in-None : goal.returns-in-None
returns-in-None c =
    let bytes = c.args.bytes.now in
    let count = c.place_plain-count in
    reads-plain _ _ bytes _ c.args.at count.result count.ensures.within count.ensures.plain count.ensures.placed (take_rest bytes count.result)
