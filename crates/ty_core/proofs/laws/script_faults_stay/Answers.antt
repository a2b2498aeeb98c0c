use Rattle.ty_core.proofs.ScriptKept.{script_fault_stays}
use Rattle.ty_core.proofs.laws.script_faults_stay.Goals as goal

pub returns : goal.returns
returns c = script_fault_stays
