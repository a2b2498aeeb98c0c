use Rattle.ty_server.proofs.Taking.{has_less_on, has_less_before}
use Rattle.ty_server.proofs.Turns.{turns_on, turns_ended, idle_less, ended_less}
use Rattle.ty_server.proofs.turning.turn.Goals as goal

pub returns-in-Ok-clause-turns : goal.returns-in-Ok-clause-turns
returns-in-Ok-clause-turns g c = turns_on (g.C.Clock.gives c.args.clock.now) c.now-now.result _ _ _ c.args.follower.now c.step.new.follower c.args.session.now c.attend.new.session c.step.new.session c.step.result c.answer.result
    c.now-now.ensures c.requires c.in-Ok.ensures.part c.in-Ok.ensures.in_time c.step.ensures.steps c.answer.ensures

pub returns-in-Ok-clause-idle : goal.returns-in-Ok-clause-idle
returns-in-Ok-clause-idle g c = idle_less c.step.result c.answer.result _ _ (λ h. has_less_before _ _ _ _ _ c.in-Ok.ensures.part.1.exchanged h) c.answer.ensures c.step.ensures.idle

pub returns-in-Ok-clause-due : goal.returns-in-Ok-clause-due
returns-in-Ok-clause-due g c = λ d. has_less_on _ _ _ _ _ (c.in-Ok.ensures.due (d c.now-now.result c.now-now.ensures)) c.step.ensures.steps.exchanged

pub returns-in-Err-clause-turns : goal.returns-in-Err-clause-turns
returns-in-Err-clause-turns g c = turns_ended (g.C.Clock.gives c.args.clock.now) c.now-now.result _ _ c.args.follower.now c.args.session.now c.attend.new.session c.in-Err.gone c.answer-in-Err.result c.answer-in-Err.ensures c.now-now.ensures c.requires c.in-Err.ensures.part

pub returns-in-Err-clause-idle : goal.returns-in-Err-clause-idle
returns-in-Err-clause-idle g c = ended_less c.in-Err.gone c.answer-in-Err.result _ c.answer-in-Err.ensures

pub returns-in-Err-clause-due : goal.returns-in-Err-clause-due
returns-in-Err-clause-due g c = λ d. c.in-Err.ensures.due (d c.now-now.result c.now-now.ensures)
