use Rattle.ty_top.proofs.Outcomes.{completing, following, reading, refusal, serving, telling, usage, writing}
use Rattle.ty_top.proofs.modes.local.Goals as goal

pub returns-clause-usage : goal.returns-clause-usage
returns-clause-usage g c = usage _ _ _ _ _ c.run-outcome.result _ c.run-outcome.ensures.came c.told.ensures

pub returns-clause-refused : goal.returns-clause-refused
returns-clause-refused g c = refusal _ _ _ _ _ c.run-outcome.result _ c.run-outcome.ensures.came c.told.ensures

pub returns-clause-serve : goal.returns-clause-serve
returns-clause-serve g c = λ w. serving _ _ _ _ _ c.run-outcome.result _ w c.run-outcome.ensures.came c.told.ensures

pub returns-clause-follow : goal.returns-clause-follow
returns-clause-follow g c = λ w. following _ _ _ _ _ c.run-outcome.result _ w c.run-outcome.ensures.came c.told.ensures

pub returns-clause-read : goal.returns-clause-read
returns-clause-read g c = reading _ _ _ _ _ c.run-outcome.result _ c.run-outcome.ensures.came c.told.ensures

pub returns-clause-write : goal.returns-clause-write
returns-clause-write g c = writing _ _ _ _ _ c.run-outcome.result _ c.run-outcome.ensures.came c.told.ensures

pub returns-clause-complete : goal.returns-clause-complete
returns-clause-complete g c = λ command bytes. completing _ _ _ _ _ c.run-outcome.result _ command bytes c.run-outcome.ensures.came c.told.ensures

pub returns-clause-headline : goal.returns-clause-headline
returns-clause-headline g c = telling _ _ _ _ _ c.run-outcome.result _ c.run-outcome.ensures.came c.told.ensures
