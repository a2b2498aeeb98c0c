use Rattle.ty_top.proofs.BothEnds.{both_ends}
use Rattle.ty_top.proofs.laws.both_ends_agree.Goals as goal

pub returns : goal.returns
returns c = both_ends
