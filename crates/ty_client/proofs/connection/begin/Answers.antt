use Rattle.ty_client.proofs.Linked.{link_begins, begins_short}
use Rattle.ty_client.proofs.connection.begin.Goals as goal

pub returns-in-Ok : goal.returns-in-Ok
returns-in-Ok c = link_begins c.args.host.now c.args.rebuild.now c.lost.new.self c.hello.new.self c.lost.ensures.here c.lost.ensures.held c.lost.ensures.up c.lost.ensures.fault c.in-Ok.ensures.ok

pub returns-in-Err : goal.returns-in-Err
returns-in-Err c = begins_short c.args.host.now c.args.rebuild.now c.lost.new.self c.hello.new.self c.lost.ensures.here c.lost.ensures.held c.lost.ensures.fault c.in-Err.ensures.err
