use Rattle.ty_server.proofs.Turns.{steps_finished, steps_left}
use Rattle.ty_server.proofs.turning.finish.Goals as goal

pub returns-in-Ok-clause-steps : goal.returns-in-Ok-clause-steps
returns-in-Ok-clause-steps g c = λ now f h step. steps_finished now _ _ f h c.args.session.now c.say_all.new.session c.leave.new.session c.leave.result step (c.in-Ok.ensures.part now) c.in-Ok.ensures.all c.leave.ensures.gone c.leave.ensures.leaves

pub returns-in-Err-clause-steps : goal.returns-in-Err-clause-steps
returns-in-Err-clause-steps g c = λ now f h step. steps_left now _ _ f h c.args.session.now c.say_all.new.session c.in-Err.gone step.0.0 (c.in-Err.ensures.part now)
