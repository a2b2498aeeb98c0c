use Rattle.std.specs.Prelude.{Ok, Err}
use Rattle.ty_client.specs.Linked.{scene}
use Rattle.ty_client.proofs.Linked.{goes_then, goes_nowhere}
use Rattle.ty_client.proofs.connection.give_queued.Goals as goal

pub loop-rebuild-init : goal.loop-rebuild-init
loop-rebuild-init g c = λ brief sink. goes_nowhere brief (scene c.args.rebuild.now (g.L.Link.sight c.args.link.now) (g.L.Link.count c.args.link.now) sink)

pub loop-rebuild-preserved : goal.loop-rebuild-preserved
loop-rebuild-preserved g c = λ brief sink. goes_then brief _ _ _ (Ok tt) (c.loop-rebuild.invariant brief sink) (c.in-Ok.ensures.came brief sink)

pub returns-in-Err-clause-came : goal.returns-in-Err-clause-came
returns-in-Err-clause-came g c = λ brief sink. goes_then brief _ _ _ (Err c.in-Err.fault) (c.loop-rebuild.invariant brief sink) (c.in-Err.ensures.came brief sink)
