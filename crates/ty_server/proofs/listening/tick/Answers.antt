use Rattle.ty_server.proofs.Working.{ticks, in_time}
use Rattle.ty_server.proofs.listening.tick.Goals as goal

pub returns-clause-works : goal.returns-clause-works
returns-clause-works c = ticks c.args.now c.args.session.now c.tick.new.self c.tick.result c.tick.ensures.goes_on c.tick.ensures.left c.tick.ensures.leaves c.tick.ensures.short

pub returns-clause-in_time : goal.returns-clause-in_time
returns-clause-in_time c = in_time c.args.now c.args.session.now c.tick.new.self c.tick.result c.tick.ensures.goes_on c.tick.ensures.ok
