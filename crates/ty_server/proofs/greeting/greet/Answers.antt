use Rattle.ty_server.proofs.Hellos.{greets_on}
use Rattle.ty_server.proofs.greeting.greet.Goals as goal

pub returns-in-Ok-clause-greets : goal.returns-in-Ok-clause-greets
returns-in-Ok-clause-greets g c =
    greets_on {A = Unit {0}} (g.C.Clock.gives c.args.clock.now) c.now-now.result _ _ c.args.session.now c.listen.new.session c.greeted.result tt c.now-now.ensures c.in-Ok.ensures.part c.in-Ok.ensures.in_time c.greeted.ensures
