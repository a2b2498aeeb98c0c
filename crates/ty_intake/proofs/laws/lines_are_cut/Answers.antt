use Rattle.ty_intake.proofs.Lines.{cut-ended, cut-rest}
use Rattle.ty_intake.proofs.laws.lines_are_cut.Goals as goal

pub returns : goal.returns
returns c = record { ended = cut-ended; rest = cut-rest }
