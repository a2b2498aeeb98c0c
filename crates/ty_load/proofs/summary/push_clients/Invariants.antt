use Rattle.std.proofs.Common.{◌≡◌, ◌-◌, ◌++◌, List}
use Rattle.std.specs.Prelude.{flat_map, string_bytes}
use Rattle.std.specs.List.{range_with_len}
use Rattle.ty_core.specs.Run.{Happening, State, going, run}
use Rattle.ty_core.specs.Held.{WorldStands}
use Rattle.ty_load.specs.Load.{clients}
use Rattle.ty_load.specs.Summary.{held_by, held_line}
use Rattle.ty_load.proofs.summary.push_clients.Given as goal

abbrev pub invariant-loop-c : goal.invariant-loop-c
invariant-loop-c l = (hs : List Happening) (s : State) → WorldStands l.world hs → run hs ≡ going s
    → string_bytes l.out ++ flat_map (λ c. held_line c (held_by s c)) (range_with_len l.c (9 - l.c))
    ≡ string_bytes l.fn.out ++ flat_map (λ c. held_line c (held_by s c)) clients
