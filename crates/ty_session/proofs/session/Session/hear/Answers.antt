use Rattle.std.proofs.Common.{sym, ◌∙◌}
use Rattle.ty_session.proofs.Hearing.{hears_looked, shows_looked, leaves_looked}
use Rattle.ty_session.proofs.session.Session.hear.Goals as goal

pub returns-in-Some-fault-clause-shows : goal.returns-in-Some-fault-clause-shows
returns-in-Some-fault-clause-shows c s st unended =
    shows_looked c.args.self.now c.quiet.new.self c.listen.new.self s c.args.now c.args.bytes.now c.in-Ok.listened.count c.in-Ok.listened.fault c.in-Some-fault.reason
    c.quiet.ensures.same unended c.in-Ok.ensures.ok c.in-Some-fault.is st

pub returns-in-Some-fault-clause-leaves : goal.returns-in-Some-fault-clause-leaves
returns-in-Some-fault-clause-leaves c s st =
    leaves_looked c.args.self.now c.quiet.new.self c.listen.new.self c.end.new.self s c.args.now c.args.bytes.now c.in-Ok.listened.count c.in-Ok.listened.fault c.in-Some-fault.reason
    c.quiet.ensures.same c.in-Ok.ensures.ok c.end.ensures st

pub returns-clause-hears : goal.returns-clause-hears
returns-clause-hears c s st =
    hears_looked c.args.self.now c.quiet.new.self c.listen.new.self c.count.new.self s c.args.now c.args.bytes.now c.in-Ok.listened.count c.in-Ok.listened.fault
    c.quiet.ensures.same (sym c.reason.ensures ∙ c.in_default.is) c.in-Ok.ensures.ok c.in_default-fault.is c.count.ensures st
