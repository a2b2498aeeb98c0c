use Rattle.std.proofs.Common.{◌-◌, map, replicate}
use Rattle.ty_script.specs.declared.event.Event.TheVariants.{Step}
use Rattle.ty_core.specs.Run.{on}
use Rattle.ty_load.specs.steps.Plans.{IsOwed, always}
use Rattle.ty_load.proofs.catch.step_on.Given as goal

abbrev pub invariant-loop : goal.invariant-loop
invariant-loop l =
    IsOwed l.fn.world l.world (always (map on (replicate (l.n - l.counter) (Step l.c)))) (always (map on (replicate l.n (Step l.c))))
