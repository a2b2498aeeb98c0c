use Rattle.std.proofs.Common.{◌≡◌, length, take, arith, length-take-le}
use Rattle.std.proofs.lemmas.Simd.{take_more_put_chunk, length-put_chunk}
use Rattle.ty_wire.proofs.quoted.place_lanes.Goals as goal

pub returns : goal.returns
returns c =
    let buf = c.args.buf.now in
    let lanes = take 16 c.args.text.now in
    let all : length lanes ≡ 16 = length-take-le 16 c.args.text.now c.requires.text in
    record { bytes = take_more_put_chunk c.args.at buf lanes _ (omega arith) c.requires.room; moved = omega arith; len = length-put_chunk c.args.at buf lanes }
