-- What a client rebuilds from the messages of one connection.
use Rattle.std.specs.Prelude.{ℕ, List, [], ◌∷◌, ◌++◌, flat_map, Option, Some, unwrap_or}
use Rattle.std.specs.List.{fold}
use Rattle.ty_base.specs.Feed.{Pairs, changed}
use Rattle.ty_base.specs.declared.delta.Delta.{Delta}
use Rattle.ty_base.specs.declared.status.Status.{Status}
use Rattle.ty_base.specs.declared.status.Status.TheVariants.{Wait}
use Rattle.ty_wire.specs.declared.message.Msg.{Msg}
use Rattle.ty_wire.specs.declared.message.Msg.TheVariants.{Kvs, Crumb, Ping, Pong}
use Rattle.ty_client.specs.Places.{latest, told_status}

-- what is rebuilt at a crumb end
pub record Rebuilt : Type 0 where
  pub number : ℕ
  pub status : Status
  pub pairs : Pairs

abbrev pub deltas_in : Msg → List Delta
deltas_in (Kvs ds) = ds
deltas_in _ = []

-- all deltas of the messages, in order, on the empty map
abbrev pub rebuilt_map : List Msg → Pairs
rebuilt_map ms = fold changed [] (flat_map deltas_in ms)

-- at crumb end n, by the messages before it
abbrev pub rebuilt_at : List Msg → ℕ → Rebuilt
rebuilt_at before n = record { number = n; status = unwrap_or (latest told_status before) Wait; pairs = rebuilt_map before }

abbrev pub at_of : List Msg → Msg → List Rebuilt
at_of before (Crumb n) = rebuilt_at before n ∷ []
at_of before _ = []

-- what is rebuilt at each crumb end among messages, which stand behind those before
unfoldable pub ats_after : List Msg → List Msg → List Rebuilt
ats_after before [] = []
ats_after before (m ∷ ms) = at_of before m ++ ats_after (before ++ m ∷ []) ms

abbrev pub ats : List Msg → List Rebuilt
ats ms = ats_after [] ms

-- the last of them, or what was held before
unfoldable pub last_held : Option Rebuilt → List Rebuilt → Option Rebuilt
last_held held [] = held
last_held held (a ∷ more) = last_held (Some a) more

-- the answer to each ping
abbrev pub pong_of : Msg → List Msg
pong_of (Ping ts) = Pong ts ∷ []
pong_of _ = []

abbrev pub pongs : List Msg → List Msg
pongs ms = flat_map pong_of ms
