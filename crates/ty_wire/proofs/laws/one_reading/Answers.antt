use Rattle.ty_wire.proofs.Fronts.{no_prefix}
use Rattle.ty_wire.proofs.Stream.{one_reads, one_outcome, brings}
use Rattle.ty_wire.proofs.Readings.{brings-some}
use Rattle.ty_wire.proofs.laws.one_reading.Goals as goal

pub returns : goal.returns
returns c = record { prefix = no_prefix; reads = one_reads; outcome = one_outcome; some = brings-some; brings = brings }
