use Rattle.ty_marks.proofs.Marks.{talk, pings}
use Rattle.ty_marks.proofs.laws.marks_make_talks.Goals as goal

pub returns : goal.returns
returns c = record { talk = talk; pings = pings }
