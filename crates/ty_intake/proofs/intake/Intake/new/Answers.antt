use Rattle.ty_intake.proofs.EmptyFeeds.{starts}
use Rattle.ty_intake.proofs.intake.Intake.new.Goals as goal

pub returns : goal.returns
returns c = starts c.new.result.items c.new-2.result c.new.ensures.items c.new-2.ensures
