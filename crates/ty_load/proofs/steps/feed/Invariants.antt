use Rattle.std.proofs.Common.{◌-◌, map}
use Rattle.ty_core.specs.Run.{on}
use Rattle.ty_load.specs.Load.{load_steps}
use Rattle.ty_load.specs.steps.Plans.{IsOwed, always}
use Rattle.ty_load.proofs.steps.feed.Given as goal

abbrev pub invariant-loop-k : goal.invariant-loop-k
invariant-loop-k l =
    IsOwed l.fn.world l.world (always (map on (load_steps (20000 - l.k) l.k l.x))) (always (map on (load_steps 20000 0 l.fn.number)))
