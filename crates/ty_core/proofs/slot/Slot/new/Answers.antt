use Rattle.ty_core.proofs.Opening.{empty}
use Rattle.ty_core.proofs.slot.Slot.new.Goals as goal

pub returns : goal.returns
returns c = λ es. empty c.new.result es c.new.ensures.stands
