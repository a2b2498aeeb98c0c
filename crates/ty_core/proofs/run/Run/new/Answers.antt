use Rattle.std.proofs.Common.{refl}
use Rattle.ty_core.proofs.Runs.{run_new}
use Rattle.ty_core.proofs.run.Run.new.Goals as goal

pub returns : goal.returns
returns c = run_new _ c.in_ok-new.ensures refl c.in_ok-no_slots.ensures.none
