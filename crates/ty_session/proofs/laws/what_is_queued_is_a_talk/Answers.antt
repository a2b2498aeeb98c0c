use Rattle.ty_session.proofs.Talks.{nothing, talked, whole}
use Rattle.ty_session.proofs.laws.what_is_queued_is_a_talk.Goals as goal

pub returns : goal.returns
returns c = record { none = nothing; talk = talked; whole = whole }
