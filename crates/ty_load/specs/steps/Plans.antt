-- What is done to a world: which happenings follow those so far, by the run so far.
use Rattle.std.specs.Prelude.{◌≡◌, ℕ, List, ◌++◌, Result, Ok, Err, ⊤}
use Rattle.ty_core.specs.declared.fault.WorldFault.{WorldFault}
use Rattle.ty_core.specs.declared.fault.WorldFault.TheVariants.{Feed, NoMemory}
use Rattle.ty_core.specs.Run.{State, Happening, Ran, going, over, run, run_from}
use Rattle.ty_core.specs.Held.{WorldHeld, WorldStands}
use Rattle.ty_load.specs.Load.{clients, load_script, load_end}

abbrev pub Plan : Type 0
Plan = Ran → List Happening

abbrev pub always : List Happening → Plan
always hs r = hs

-- the first, and then the second
abbrev pub then : Plan → Plan → Plan
then p q r = p r ++ q (run_from r (p r))

-- these clients, one after another
abbrev pub catching : List ℕ → Plan
catching cs r = load_end r cs

-- all that happens
abbrev pub entire : ℕ → Plan
entire x = then (always (load_script x)) (catching clients)

-- these happenings so far, without a fault
pub record Stands (w : WorldHeld) (hs : List Happening) : Type 0 where
  pub state : State
  pub is : run hs ≡ going state
  pub world : WorldStands w hs

abbrev pub Ends : WorldFault → WorldHeld → Plan → Type 0
Ends (Feed f) old p = (hs : List Happening) → Stands old hs → run (hs ++ p (run hs)) ≡ over f
Ends NoMemory old p = ⊤

-- what is planned has happened
abbrev pub Done : WorldHeld → WorldHeld → Plan → Type 0
Done old new p = (hs : List Happening) → Stands old hs → Stands new (hs ++ p (run hs))

-- it has happened, or it brings this fault
abbrev pub Does : {A : Type 0} → Result A WorldFault → WorldHeld → WorldHeld → Plan → Type 0
Does (Ok a) old new p = Done old new p
Does (Err e) old new p = Ends e old p

-- where the plan's beginning has led
pub record Reached (w : WorldHeld) (hs : List Happening) (rest all : Plan) : Type 0 where
  pub at : List Happening
  pub stands : Stands w at
  pub is : at ++ rest (run at) ≡ hs ++ all (run hs)

-- this rest is owed of it all
pub record IsOwed (old now : WorldHeld) (rest all : Plan) : Type 0 where
  pub reached : (hs : List Happening) → Stands old hs → Reached now hs rest all
