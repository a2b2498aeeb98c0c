use Rattle.ty_wire.proofs.Whole.{reads-whole, reads-in, whole-more, whole-all, whole-front}
use Rattle.ty_wire.proofs.laws.frames_read_back.Goals as goal

pub returns : goal.returns
returns c = record { whole = reads-whole; front = reads-in; more = whole-more; all = whole-all; fewer = whole-front }
