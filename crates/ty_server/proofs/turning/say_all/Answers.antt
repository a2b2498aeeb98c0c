use Rattle.std.proofs.Common.{[], ap, sym, ◌∙◌}
use Rattle.std.specs.Prelude.{Ok, Err}
use Rattle.ty_session.specs.Held.{SessionHeld}
use Rattle.ty_session.proofs.Held.{on_ok}
use Rattle.ty_server.specs.Exchanges.{link_seen}
use Rattle.ty_server.specs.steps.Parts.{HasJoined}
use Rattle.ty_server.proofs.Parts.{part_then, part_works}
use Rattle.ty_server.proofs.turning.say_all.Goals as goal

pub returns-in-Ok-clause-part : goal.returns-in-Ok-clause-part
returns-in-Ok-clause-part g c = λ now.
    let q = c.give_queued.ensures.part now in (
      q.0,
      part_then {A = Unit {0}} {B = Unit {0}} HasJoined now [] q.0 _ _ _ c.args.session.now c.close.new.session c.give_queued.new.session tt c.give_queued.result
          (part_works {A = Unit {0}} HasJoined now (link_seen (g.L.Link.sight c.args.link.now) (g.L.Link.count c.args.link.now)) c.args.session.now c.close.new.session (Ok tt) (c.in-Ok.ensures.works now)) q.1,
    )

pub returns-in-Err-clause-part : goal.returns-in-Err-clause-part
returns-in-Err-clause-part g c = λ now. ([], part_works {A = Unit {0}} HasJoined now (link_seen (g.L.Link.sight c.args.link.now) (g.L.Link.count c.args.link.now)) c.args.session.now c.close.new.session (Err c.in-Err.gone) (c.in-Err.ensures.works now))

pub returns-in-Ok-clause-all : goal.returns-in-Ok-clause-all
returns-in-Ok-clause-all g c = on_ok c.give_queued.result (λ e. (ap (λ (v : SessionHeld). v.out) e, ap (λ (v : SessionHeld). v.ended) e ∙ c.in-Ok.ensures.ended ∙ sym (ap (λ (v : SessionHeld). v.number) e))) c.give_queued.ensures.same
