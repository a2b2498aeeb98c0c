-- What is so of every interleaving.
use Rattle.std.specs.Prelude.{◌≡◌, ℕ, ◌<◌, ◌≤◌, List, [], ◌∷◌, ◌++◌, length, map, Option, None, Some, ⊤}
use Rattle.std.specs.List.{AllByRecursion}
use Rattle.std.specs.Option.{IfSome}
use Rattle.ty_base.specs.declared.limits.TheConstants.{INPUT_BYTES}
use Rattle.ty_wire.specs.Talk.{Rise}
use Rattle.ty_wire.specs.declared.message.Msg.{Msg}
use Rattle.ty_client.specs.Heard.{Hears}
use Rattle.ty_client.specs.Rebuilt.{Rebuilt, ats}
use Rattle.ty_core.specs.Clients.{newest, down}
use Rattle.ty_core.specs.Run.{State, trail, book_of, link, Happening, on, end, Ran, going, over, goes, run, no_state}
use Rattle.ty_core.specs.Report.{report, world_shown}
use Rattle.ty_core.specs.declared.client.Connection.{Connection}
use Rattle.ty_script.specs.Fits.{IsEvent, IsClient}
use Rattle.ty_core.specs.declared.told.Told.{Told}
use Rattle.ty_core.specs.declared.told.Told.TheVariants.{Published, Rebuilt as AtEnd, Still}

-- Scripts

-- behind a fault nothing happens any more
abbrev pub CanHappen : Ran → Happening → Type 0
CanHappen (going s) (on e) = IsEvent s.now e
CanHappen (going s) end = ⊤
CanHappen (over f) h = ⊤

unfoldable pub AllCanHappen : Ran → List Happening → Type 0
AllCanHappen r [] = ⊤
AllCanHappen r (h ∷ hs) = CanHappen r h × AllCanHappen (goes r h) hs

-- each can happen at its time
abbrev pub IsScript : List Happening → Type 0
IsScript hs = AllCanHappen (going no_state) hs

-- Maps

-- the map is the world of its number, a breadcrumb that is there
abbrev pub IsWorldOf : State → Rebuilt → Type 0
IsWorldOf s a = (a ≡ world_shown s a.number) × (a.number ≤ newest (trail s))

-- the map that is told, if one is
abbrev pub map_of : Told → Option Rebuilt
map_of (Published a) = Some a
map_of (AtEnd c a) = Some a
map_of (Still c held) = held
map_of _ = None

abbrev pub ShowsWorlds : State → Told → Type 0
ShowsWorlds s t = IfSome (map_of t) (IsWorldOf s)

-- Numbers

-- each is above the one before, and none above the last
abbrev pub AreRising : List ℕ → ℕ → Type 0
AreRising [] most = ⊤
AreRising (n ∷ ns) most = Rise n ns most

-- The headline

-- what reaches client c on its connection, cut behind any byte, rebuilds worlds, whose numbers rise
abbrev pub ReceivesWorlds : State → ℕ → Type 0
ReceivesWorlds s c = (k : Connection) (bytes more : List ℕ) → link s c ≡ Some k → bytes ++ more ≡ down (book_of s) k → length bytes < INPUT_BYTES
    → (ms : List Msg) × (ns : List ℕ) × Hears bytes ms None × (ats ms ≡ map (world_shown s) ns) × AreRising ns (newest (trail s))

-- whatever happened, each map that was told is the world of its number, what reaches a client rebuilds worlds whose numbers
-- rise, and maps of one number are equal
pub record RebuildsWorlds (hs : List Happening) : Type 0 where
  pub state : State
  pub ran : run hs ≡ going state
  pub told : AllByRecursion (ShowsWorlds state) (report hs)
  pub received : (c : ℕ) → IsClient c → ReceivesWorlds state c
  pub equal : (a b : Rebuilt) → IsWorldOf state a → IsWorldOf state b → a.number ≡ b.number → a ≡ b
