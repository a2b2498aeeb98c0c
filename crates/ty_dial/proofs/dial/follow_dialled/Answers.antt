use Rattle.ty_client.specs.Linked.{Scene, scene}
use Rattle.ty_dial.proofs.Following.{had_ended, had_stopped}
use Rattle.ty_dial.proofs.dial.follow_dialled.Goals as goal

pub returns-in-Ok : goal.returns-in-Ok
returns-in-Ok g c =
    let old : Scene = scene c.args.rebuild.now (g.L.Link.sight c.args.link.now) (g.L.Link.count c.args.link.now) (g.K.Sink.seen c.args.sink.now) in
    let new : Scene = scene c.follow_link.new.rebuild (g.L.Link.sight c.follow_link.new.link) (g.L.Link.count c.follow_link.new.link) (g.K.Sink.seen c.follow_link.new.sink) in
    had_ended c.args.host.now c.args.brief old new c.in-Ok.ensures.ok c.in-Ok.ensures.faults c.in-Ok.ensures.writes

pub returns-in-Err : goal.returns-in-Err
returns-in-Err g c =
    let old : Scene = scene c.args.rebuild.now (g.L.Link.sight c.args.link.now) (g.L.Link.count c.args.link.now) (g.K.Sink.seen c.args.sink.now) in
    let new : Scene = scene c.follow_link.new.rebuild (g.L.Link.sight c.follow_link.new.link) (g.L.Link.count c.follow_link.new.link) (g.K.Sink.seen c.follow_link.new.sink) in
    had_stopped c.args.host.now c.args.brief old new c.in-Err.fault c.dial_fault.result c.in-Err.ensures.fault c.dial_fault.ensures c.in-Err.ensures.faults c.in-Err.ensures.writes
