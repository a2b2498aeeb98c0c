use Rattle.std.proofs.Common.{Bool, length}
use Rattle.std.specs.Prelude.{Ok}
use Rattle.ty_base.specs.Devices.{Output}
use Rattle.ty_client.specs.Linked.{scene}
use Rattle.ty_client.specs.steps.Links.{GoesOnOrStops}
use Rattle.ty_client.proofs.connection.give_queued.Given as goal

abbrev pub invariant-loop-rebuild : goal.invariant-loop-rebuild
invariant-loop-rebuild g l = (brief : Bool) (sink : Output) → GoesOnOrStops brief (scene l.fn.rebuild (g.L.Link.sight l.fn.link) (g.L.Link.count l.fn.link) sink) (scene l.rebuild (g.L.Link.sight l.link) (g.L.Link.count l.link) sink) (Ok tt)

abbrev pub decreases-loop-rebuild : goal.decreases-loop-rebuild
decreases-loop-rebuild g l = length l.rebuild.up
