use Rattle.std.proofs.Common.{rules}
use Rattle.ty_session.proofs.Held.{ticks}
use Rattle.ty_session.proofs.session.Session.tick.Goals as goal

pub returns-clause-goes_on : goal.returns-clause-goes_on
returns-clause-goes_on c s st = ticks c.args.self.now c.ping.new.self s c.args.now (search rules) c.ranges.now.fits c.in-Ok.ensures.ok st
