use Rattle.ty_select.proofs.Expressions.{said_once}
use Rattle.ty_select.proofs.laws.one_reading.Goals as goal

pub returns : goal.returns
returns c = said_once
