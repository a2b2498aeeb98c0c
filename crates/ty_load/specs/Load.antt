-- The load: a script that is made from a number. Clients join, a feed's lines come, some clients step and read, some lose
-- their connections and return; then the feed ends, and each client catches up.
use Rattle.std.specs.Prelude.{ℕ, zero, suc, ◌+◌, ◌-◌, ◌*◌, ◌/◌, ◌%◌, ◌^◌, ◌==◌, List, [], ◌∷◌, ◌++◌, codes, decimal, flat_map, map, replicate, Option, None, Some, if◌then◌else◌}
use Rattle.std.specs.List.{range_with_len}
use Rattle.ty_script.specs.declared.event.Event.{Event}
use Rattle.ty_script.specs.declared.event.Event.TheVariants.{Line, Join, Step, Get, Hear, Cut}
use Rattle.ty_script.specs.declared.event.TheConstants.{GET_BYTES}
use Rattle.ty_core.specs.Clients.{newest}
use Rattle.ty_core.specs.Run.{State, Happening, on, end, Ran, going, over, run, run_from, trail, link}
use Rattle.ty_core.specs.declared.client.Connection.{Connection}

abbrev pub clients : List ℕ
clients = range_with_len 1 8

-- a client joins and is heard
abbrev pub enters : ℕ → List Event
enters c = Join c ∷ Hear c ∷ []

-- Words, each made from the one before

abbrev pub next_word : ℕ → ℕ
next_word x = (x * 6364136223846793005 + 1442695040888963407) % 2 ^ 64

-- the key's number, the value's number, the client, and what decides whether there is a value
abbrev pub key_number : ℕ → ℕ
key_number x = x / 2 ^ 33 % 2000

abbrev pub value_number : ℕ → ℕ
value_number x = x / 2 ^ 44 % 1000

abbrev pub client_of : ℕ → ℕ
client_of x = x / 2 ^ 50 % 8 + 1

abbrev pub die_of : ℕ → ℕ
die_of x = x / 2 ^ 20 % 8

-- The feed

abbrev pub value_member : ℕ → List ℕ
value_member x = if die_of x == 0 then [] else codes ",\"value\":\"v" ++ (decimal (value_number x) ++ codes "\"")

abbrev pub load_line : ℕ → List ℕ
load_line x = codes "{\"key\":\"/calico/v1/config/k" ++ (decimal (key_number x) ++ (codes "\"" ++ (value_member x ++ codes "}")))

-- The steps

abbrev pub every : ℕ → ℕ → List Event → List Event
every n k events = if k % n == 0 then events else []

-- step k, by its word
abbrev pub load_step : ℕ → ℕ → List Event
load_step k x =
    Line (load_line x)
    ∷ (every 10 k (Step (client_of x) ∷ Get (client_of x) 65536 ∷ [])
    ++ every 1000 k (Cut (client_of x) ∷ enters (client_of x)))

-- the next n steps, behind step k and its word
unfoldable pub load_steps : ℕ → ℕ → ℕ → List Event
load_steps zero k x = []
load_steps (suc n) k x = load_step (k + 1) (next_word x) ++ load_steps n (k + 1) (next_word x)

-- up to the feed's end
abbrev pub load_script : ℕ → List Happening
load_script x = map on (flat_map enters clients ++ load_steps 20000 0 x) ++ end ∷ []

-- Catching up

-- the steps of a connection until it is pending
abbrev pub steps_left : ℕ → Option Connection → ℕ
steps_left last None = 1
steps_left last (Some k) = last - k.offered + 1

-- a client steps until it is pending, and gets all
abbrev pub catching_up : State → ℕ → List Happening
catching_up s c = map on (replicate (steps_left (newest (trail s)) (link s c)) (Step c) ++ Get c GET_BYTES ∷ [])

abbrev pub caught_up : Ran → ℕ → List Happening
caught_up (going s) c = catching_up s c
caught_up (over f) c = []

-- client after client
unfoldable pub load_end : Ran → List ℕ → List Happening
load_end r [] = []
load_end r (c ∷ cs) = caught_up r c ++ load_end (run_from r (caught_up r c)) cs

abbrev pub load_happenings : ℕ → List Happening
load_happenings x = load_script x ++ load_end (run (load_script x)) clients
