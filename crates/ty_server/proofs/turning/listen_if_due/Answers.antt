use Rattle.ty_server.specs.Exchanges.{link_seen}
use Rattle.ty_server.specs.steps.Parts.{IsUnended}
use Rattle.ty_server.proofs.Parts.{part_works}
use Rattle.ty_server.proofs.turning.listen_if_due.Goals as goal

pub returns-else-due-clause-part : goal.returns-else-due-clause-part
returns-else-due-clause-part g c = part_works IsUnended c.args.now (link_seen (g.L.Link.sight c.args.link.now) (g.L.Link.count c.args.link.now)) c.args.session.now c.tick.new.session c.tick.result c.tick.ensures.works
