use Rattle.std.proofs.Common.{arith}
use Rattle.ty_wire.proofs.Placed.{placed-front}
use Rattle.ty_wire.proofs.quoted.place_plain.Goals as goal

pub returns-then-text-ge-LANES-clause-placed : goal.returns-then-text-ge-LANES-clause-placed
returns-then-text-ge-LANES-clause-placed c =
    placed-front c.args.text.now c.plain_len-count.result (omega arith) (omega arith) c.plain_len-count.ensures.few c.place_lanes.ensures
