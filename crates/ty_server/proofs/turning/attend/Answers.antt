use Rattle.std.proofs.Common.{[], ap, ◌∙◌}
use Rattle.ty_session.specs.Held.{SessionHeld}
use Rattle.ty_session.specs.Outcomes.{tick_reason}
use Rattle.ty_session.proofs.Held.{on_ok}
use Rattle.ty_server.proofs.Given.{some_then}
use Rattle.ty_server.proofs.Taking.{has_less_on}
use Rattle.ty_server.proofs.turning.attend.Goals as goal

pub returns-in-Ok-clause-part : goal.returns-in-Ok-clause-part
returns-in-Ok-clause-part g c = some_then c.args.now _ _ _ c.args.session.now c.listen_if_due.new.session c.give_queued.new.session tt c.give_queued.result ([], c.in-Ok.ensures.part) (c.give_queued.ensures.part c.args.now)

pub returns-in-Ok-clause-in_time : goal.returns-in-Ok-clause-in_time
returns-in-Ok-clause-in_time g c = on_ok c.give_queued.result (λ e s st none. ap (λ (v : SessionHeld). tick_reason c.args.now v.stance) e ∙ c.in-Ok.ensures.in_time s st none) c.give_queued.ensures.same

pub returns-in-Ok-clause-due : goal.returns-in-Ok-clause-due
returns-in-Ok-clause-due g c = let q = c.give_queued.ensures.part c.args.now in λ d. has_less_on _ _ _ _ _ (c.in-Ok.ensures.due d) q.1.exchanged
