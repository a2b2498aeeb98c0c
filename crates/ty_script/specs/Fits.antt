-- Which events can happen, and which a script can say.
use Rattle.std.specs.Prelude.{ℕ, List, ◌≡◌, ◌+◌, ◌<◌, ◌≤◌, ⊤}
use Rattle.ty_script.specs.declared.event.Event.{Event}
use Rattle.ty_script.specs.declared.event.Event.TheVariants.{Line, Join, Step, Get, Hear, Cut, Tick}
use Rattle.ty_script.specs.declared.event.TheConstants.{CLIENTS, GET_BYTES, TICK_MILLISECONDS, TIME_LIMIT}

abbrev pub IsClient : ℕ → Type 0
IsClient c = (1 ≤ c) × (c ≤ CLIENTS)

-- a client's number is from 1 to CLIENTS, and the time stays below the limit
abbrev pub IsEvent : ℕ → Event → Type 0
IsEvent now (Line line) = ⊤
IsEvent now (Join c) = IsClient c
IsEvent now (Step c) = IsClient c
IsEvent now (Get c n) = IsClient c
IsEvent now (Hear c) = IsClient c
IsEvent now (Cut c) = IsClient c
IsEvent now (Tick ms) = now + ms < TIME_LIMIT

-- the numbers are within the limits of a script's line, and a feed line is that line itself
abbrev pub FitsScript : List ℕ → Event → Type 0
FitsScript line (Line text) = text ≡ line
FitsScript line (Join c) = IsClient c
FitsScript line (Step c) = IsClient c
FitsScript line (Get c n) = IsClient c × ((1 ≤ n) × (n ≤ GET_BYTES))
FitsScript line (Hear c) = IsClient c
FitsScript line (Cut c) = IsClient c
FitsScript line (Tick ms) = (1 ≤ ms) × (ms ≤ TICK_MILLISECONDS)
