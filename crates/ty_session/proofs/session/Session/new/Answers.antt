use Rattle.ty_session.proofs.Held.{starts}
use Rattle.ty_session.proofs.session.Session.new.Goals as goal

pub returns : goal.returns
returns c = starts c.args.opened c.new.result c.new-2.result c.new-3.result c.new-4.result c.new.ensures c.new-2.ensures c.new-3.ensures c.new-4.ensures.stands c.new-4.ensures.fault
