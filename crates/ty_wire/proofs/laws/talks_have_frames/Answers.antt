use Rattle.ty_wire.proofs.Talk.{talk-wire, talk-with-pings}
use Rattle.ty_wire.proofs.laws.talks_have_frames.Goals as goal

pub returns : goal.returns
returns c = record { talk = talk-wire; pings = talk-with-pings }
