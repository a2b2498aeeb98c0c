use Rattle.ty_wire.proofs.Parts.{joined, all-fit}
use Rattle.ty_wire.proofs.Utf8.{group-wire}
use Rattle.ty_wire.proofs.laws.cutting_keeps_deltas.Goals as goal

pub returns : goal.returns
returns c = record { joined = joined; fit = all-fit; group = group-wire }
