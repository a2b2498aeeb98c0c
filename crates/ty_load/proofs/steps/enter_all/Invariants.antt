use Rattle.std.proofs.Common.{◌-◌, map}
use Rattle.std.specs.Prelude.{flat_map}
use Rattle.std.specs.List.{range_with_len}
use Rattle.ty_core.specs.Run.{on}
use Rattle.ty_load.specs.Load.{clients, enters}
use Rattle.ty_load.specs.steps.Plans.{IsOwed, always}
use Rattle.ty_load.proofs.steps.enter_all.Given as goal

abbrev pub invariant-loop-c : goal.invariant-loop-c
invariant-loop-c l =
    IsOwed l.fn.world l.world (always (map on (flat_map enters (range_with_len l.c (9 - l.c))))) (always (map on (flat_map enters clients)))
