use Rattle.std.proofs.Common.{◌-◌}
use Rattle.std.specs.List.{range_with_len}
use Rattle.ty_load.specs.Load.{clients}
use Rattle.ty_load.specs.steps.Plans.{IsOwed, catching}
use Rattle.ty_load.proofs.catch.catch_up_all.Given as goal

abbrev pub invariant-loop-c : goal.invariant-loop-c
invariant-loop-c l = IsOwed l.fn.world l.world (catching (range_with_len l.c (9 - l.c))) (catching clients)
