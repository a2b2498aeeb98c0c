use Rattle.ty_marks.proofs.Marks.{messages-more, bytes-more, messages_of-more}
use Rattle.ty_marks.proofs.laws.marks_grow.Goals as goal

pub returns : goal.returns
returns c = record { marks = λ es marks more. messages-more es 0 marks more; bytes = bytes-more; entries = messages_of-more }
