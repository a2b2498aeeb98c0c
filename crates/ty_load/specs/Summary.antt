-- What is told of a load: the last breadcrumb's number and its count of pairs, and those of the breadcrumb that each client
-- holds.
use Rattle.std.specs.Prelude.{ℕ, List, [], ◌++◌, length, codes, decimal, flat_map, Option, None, Some, option_map}
use Rattle.ty_client.specs.Rebuilt.{Rebuilt}
use Rattle.ty_core.specs.Clients.{newest}
use Rattle.ty_core.specs.Run.{State, Ran, going, over, run, trail, client}
use Rattle.ty_core.specs.Report.{world_shown}
use Rattle.ty_load.specs.Load.{clients, load_happenings}

abbrev pub named_number : List ℕ → ℕ → List ℕ
named_number name n = name ++ (codes " " ++ (decimal n ++ codes "\n"))

abbrev pub held_line : ℕ → Option Rebuilt → List ℕ
held_line c None = []
held_line c (Some a) =
    codes "client " ++ (decimal c ++ (codes " at " ++ (decimal a.number ++ (codes " " ++ (decimal (length a.pairs) ++ codes "\n")))))

-- the breadcrumb that client c holds
abbrev pub held_by : State → ℕ → Option Rebuilt
held_by s c = option_map (world_shown s) (client s c).held

abbrev pub summary_of : ℕ → State → List ℕ
summary_of x s =
    named_number (codes "load") x
    ++ (named_number (codes "crumbs") (newest (trail s))
    ++ (named_number (codes "pairs") (length (world_shown s (newest (trail s))).pairs)
    ++ flat_map (λ c. held_line c (held_by s c)) clients))

-- a fault of the feed would leave nothing to tell
abbrev pub summary_by : ℕ → Ran → List ℕ
summary_by x (going s) = summary_of x s
summary_by x (over f) = []

abbrev pub summary : ℕ → List ℕ
summary x = summary_by x (run (load_happenings x))
