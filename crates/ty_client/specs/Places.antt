-- Where the messages of one connection may stand. Each is judged by the messages before it: first a
-- server hello; then groups of KVs messages, at most one status and a crumb end, of which the first
-- group needs its status; pings anywhere.
use Rattle.std.specs.Prelude.{ℕ, ◌+◌, ◌==◌, Bool, true, false, List, [], ◌∷◌, ◌++◌, length, Option, None, Some, nat_lt, unwrap_or, if◌then◌else◌}
use Rattle.std.specs.List.{fold}
use Rattle.std.specs.Option.{option_or}
use Rattle.ty_base.specs.declared.status.Status.{Status}
use Rattle.ty_wire.specs.declared.message.Msg.{Msg}
use Rattle.ty_wire.specs.declared.message.Msg.TheVariants.{ServerHello, Kvs, Status as StatusMsg, Crumb, Ping}
use Rattle.ty_client.specs.declared.fault.StreamFault.{StreamFault}
use Rattle.ty_client.specs.declared.fault.StreamFault.TheVariants.{Version, Order, NotRising}

-- what f says of the last message of which it says anything
abbrev pub latest : {A : Type 0} → (Msg → Option A) → List Msg → Option A
latest f ms = fold (λ found m. option_or (f m) found) None ms

abbrev pub told_status : Msg → Option Status
told_status (StatusMsg s) = Some s
told_status _ = None

abbrev pub told_number : Msg → Option ℕ
told_number (Crumb n) = Some n
told_number _ = None

-- of a status and a crumb end: whether it is the status
abbrev pub is_status : Msg → Option Bool
is_status (StatusMsg s) = Some true
is_status (Crumb n) = Some false
is_status _ = None

-- a status has come since the last crumb end, or since the hello where there was none
abbrev pub has_status : List Msg → Bool
has_status ms = unwrap_or (latest is_status ms) false

-- frames count from 1
abbrev pub next_frame : List Msg → ℕ
next_frame before = length before + 1

abbrev pub opening_fault : Msg → Option StreamFault
opening_fault (ServerHello version) = if version == 1 then None else Some (Version version)
opening_fault _ = Some (Order 1)

-- a crumb end's number is above that of the last one
abbrev pub rising_fault : ℕ → Option ℕ → ℕ → Option StreamFault
rising_fault frame None n = None
rising_fault frame (Some had) n = if nat_lt had n then None else Some (NotRising frame had n)

-- and some status has come on this connection
abbrev pub crumb_fault : ℕ → Option Status → Option ℕ → ℕ → Option StreamFault
crumb_fault frame None had n = Some (Order frame)
crumb_fault frame (Some s) had n = rising_fault frame had n

-- the fault of a later frame, by the last status, whether it has come since the last crumb end, and
-- that end's number
abbrev pub later_fault : ℕ → Option Status → Bool → Option ℕ → Msg → Option StreamFault
later_fault frame status fresh had (Ping ts) = None
later_fault frame status fresh had (Kvs ds) = if fresh then Some (Order frame) else None
later_fault frame status fresh had (StatusMsg s) = if fresh then Some (Order frame) else None
later_fault frame status fresh had (Crumb n) = crumb_fault frame status had n
later_fault frame status fresh had _ = Some (Order frame)

-- the fault of a message behind those before it, if it isn't in its place
abbrev pub place_fault : List Msg → Msg → Option StreamFault
place_fault before m =
    if next_frame before == 1 then opening_fault m
    else later_fault (next_frame before) (latest told_status before) (has_status before) (latest told_number before) m

-- the messages before the first that isn't in its place, and its fault
pub record Judged : Type 0 where
  pub good : List Msg
  pub fault : Option StreamFault

abbrev pub judged_by : Option StreamFault → Msg → Judged → Judged
judged_by None m later = record { good = m ∷ later.good; fault = later.fault }
judged_by (Some f) m later = record { good = []; fault = Some f }

unfoldable pub judged_after : List Msg → List Msg → Judged
judged_after before [] = record { good = []; fault = None }
judged_after before (m ∷ ms) = judged_by (place_fault before m) m (judged_after (before ++ m ∷ []) ms)

abbrev pub judged : List Msg → Judged
judged ms = judged_after [] ms
