use Rattle.ty_intake.proofs.SmallItems.{items_small}
use Rattle.ty_intake.proofs.laws.items_are_small.Goals as goal

pub returns : goal.returns
returns c = items_small
