use Rattle.ty_intake.proofs.KeptFaults.{fed-stays, end-stays}
use Rattle.ty_intake.proofs.laws.faults_stay.Goals as goal

pub returns : goal.returns
returns c = record { fed = fed-stays; ended = end-stays }
