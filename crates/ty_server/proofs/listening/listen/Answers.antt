use Rattle.ty_server.specs.Exchanges.{link_seen}
use Rattle.ty_session.proofs.Held.{on_ok}
use Rattle.ty_server.specs.steps.Parts.{IsUnended}
use Rattle.ty_server.proofs.Parts.{part_then, part_works}
use Rattle.ty_server.proofs.listening.listen.Goals as goal

pub returns-in-Ok-clause-part : goal.returns-in-Ok-clause-part
returns-in-Ok-clause-part g c =
    part_then IsUnended c.args.now _ _ _ _ _ c.args.session.now c.look.new.session c.tick.new.session _ c.tick.result c.in-Ok.ensures.part
    (part_works IsUnended c.args.now (link_seen (g.L.Link.sight c.look.new.link) (g.L.Link.count c.look.new.link)) c.look.new.session c.tick.new.session c.tick.result c.tick.ensures.works)

pub returns-in-Ok-clause-in_time : goal.returns-in-Ok-clause-in_time
returns-in-Ok-clause-in_time g c = on_ok c.tick.result (λ h s st none.
    let one = c.in-Ok.ensures.part.story s st none in
    h one.0 one.1.stands one.1.no_reason) c.tick.ensures.in_time
