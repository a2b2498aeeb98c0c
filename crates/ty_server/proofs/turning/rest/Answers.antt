use Rattle.std.proofs.Common.{[], ◌++◌}
use Rattle.std.specs.Prelude.{Ok, Err}
use Rattle.ty_server.specs.steps.Parts.{HasJoined}
use Rattle.ty_server.proofs.Parts.{part_then}
use Rattle.ty_server.proofs.Taking.{has_less_before}
use Rattle.ty_server.proofs.Turns.{steps_idle, steps_left, keeps_all}
use Rattle.ty_server.proofs.turning.rest.Goals as goal

pub returns-in-Ok-look-clause-steps : goal.returns-in-Ok-look-clause-steps
returns-in-Ok-look-clause-steps g c = λ f h step.
    let q = c.in-Ok.ensures.part c.args.now in
    steps_idle c.args.now _ _ f h c.args.session.now c.look.new.session step
    (q.0 ++ [], part_then HasJoined c.args.now q.0 [] _ _ _ c.args.session.now c.say_all.new.session c.look.new.session tt (Ok tt) q.1 c.in-Ok-look.ensures.part)
    (λ s st joined. let one = q.1.story s st joined in keeps_all c.say_all.new.session c.look.new.session one.0 one.1.stands c.in-Ok-look.ensures.kept c.in-Ok.ensures.all)

pub returns-in-Ok-look-clause-idle : goal.returns-in-Ok-look-clause-idle
returns-in-Ok-look-clause-idle g c = let q = c.in-Ok.ensures.part c.args.now in has_less_before _ _ _ _ _ q.1.exchanged c.look.ensures.progress

pub returns-in-Err-look-clause-steps : goal.returns-in-Err-look-clause-steps
returns-in-Err-look-clause-steps g c = λ f h step.
    let q = c.in-Ok.ensures.part c.args.now in
    steps_left c.args.now _ _ f h c.args.session.now c.look.new.session c.in-Err-look.gone step.0.0
    (q.0 ++ [], part_then HasJoined c.args.now q.0 [] _ _ _ c.args.session.now c.say_all.new.session c.look.new.session tt (Err c.in-Err-look.gone) q.1 c.in-Err-look.ensures.part)

pub returns-in-Err-clause-steps : goal.returns-in-Err-clause-steps
returns-in-Err-clause-steps g c = λ f h step. steps_left c.args.now _ _ f h c.args.session.now c.say_all.new.session c.in-Err.gone step.0.0 (c.in-Err.ensures.part c.args.now)
