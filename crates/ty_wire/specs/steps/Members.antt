-- For private clauses: the message that JSON data tells.
use Rattle.std.specs.Prelude.{ℕ, List, [], ◌∷◌, codes, Option, None, Some, option_map, option_and_then, if◌then◌else◌, refl}
use Rattle.std.specs.Str.{bytes_eq}
use Rattle.serde_json.specs.Data.{Data, Items, no_items, item}
use Rattle.serde_json.specs.Find.{get, as_str, as_u64, as_number, as_array}
use Rattle.ty_wire.specs.declared.message.Msg.{Msg}
use Rattle.ty_wire.specs.declared.message.Msg.TheVariants.{ClientHello, ServerHello, Kvs, Status as StatusMsg, Crumb, Ping, Pong}
use Rattle.ty_base.specs.Statuses.{status_of}
use Rattle.ty_base.specs.declared.delta.Kind.{Kind}
use Rattle.ty_base.specs.declared.delta.Kind.TheVariants.{New, Updated, Deleted}
use Rattle.ty_base.specs.declared.delta.Delta.{Delta}
use Rattle.ty_wire.specs.declared.decode.Name.{Name}
use Rattle.ty_wire.specs.declared.decode.Name.TheVariants as names

abbrev pub text_at : List ℕ → Data → Option (List ℕ)
text_at key d = option_and_then as_str (get key d)

abbrev pub number_at : List ℕ → Data → Option ℕ
number_at key d = option_and_then (λ n. as_u64 n) (option_and_then as_number (get key d))

abbrev pub read_kind : List ℕ → Option Kind
read_kind s = if bytes_eq s (codes "new") then Some New else (if bytes_eq s (codes "updated") then Some Updated else (if bytes_eq s (codes "deleted") then Some Deleted else None))

abbrev pub kind_at : Data → Option Kind
kind_at d = option_and_then read_kind (text_at (codes "type") d)

abbrev pub read_name : List ℕ → Option Name
read_name s =
    if bytes_eq s (codes "kvs") then Some names.Kvs else (if bytes_eq s (codes "crumb") then Some names.Crumb else (if bytes_eq s (codes "status") then Some names.Status else (if bytes_eq s (codes "ping") then Some names.Ping else (if bytes_eq s (codes "pong") then Some names.Pong else (if bytes_eq s (codes "client_hello") then Some names.ClientHello else (if bytes_eq s (codes "server_hello") then Some names.ServerHello else None))))))

abbrev pub named : Data → Option Name
named d = option_and_then read_name (text_at (codes "m") d)

abbrev pub small_of : Name → Data → Option Msg
small_of names.ServerHello d = option_map ServerHello (number_at (codes "version") d)
small_of names.Status d = option_map StatusMsg (option_and_then status_of (text_at (codes "status") d))
small_of names.Crumb d = option_map Crumb (number_at (codes "n") d)
small_of names.Ping d = option_map Ping (number_at (codes "ts") d)
small_of names.Pong d = option_map Pong (number_at (codes "ts") d)
small_of _ d = None

abbrev pub hello_from : Option ℕ → Option (List ℕ) → Option Msg
hello_from (Some v) (Some h) = Some (ClientHello v h)
hello_from _ _ = None

abbrev pub hello_of : Data → Option Msg
hello_of d = hello_from (number_at (codes "version") d) (text_at (codes "host") d)

-- a value is there exactly where the kind isn't `Deleted`
abbrev pub delta_with : List ℕ → Kind → Option (List ℕ) → Option Delta
delta_with k New (Some v) = Some (record { key = k; kind = New; value = Some v; told = refl })
delta_with k Updated (Some v) = Some (record { key = k; kind = Updated; value = Some v; told = refl })
delta_with k Deleted None = Some (record { key = k; kind = Deleted; value = None; told = refl })
delta_with k _ _ = None

abbrev pub delta_from : Option (List ℕ) → Option Kind → Option (List ℕ) → Option Delta
delta_from (Some k) (Some kind) v = delta_with k kind v
delta_from _ _ v = None

abbrev pub delta_in : Data → Option Delta
delta_in d = delta_from (text_at (codes "key") d) (kind_at d) (text_at (codes "value") d)

abbrev pub cons_if : Option Delta → Option (List Delta) → Option (List Delta)
cons_if (Some d) (Some ds) = Some (d ∷ ds)
cons_if _ _ = None

unfoldable pub deltas_of : Items → Option (List Delta)
deltas_of no_items = Some []
deltas_of (item d ds) = cons_if (delta_in d) (deltas_of ds)

abbrev pub kvs_from : Option Items → Option Msg
kvs_from None = None
kvs_from (Some ds) = option_map Kvs (deltas_of ds)

abbrev pub kvs_of : Data → Option Msg
kvs_of d = kvs_from (option_and_then as_array (get (codes "kvs") d))

abbrev pub msg_by : Name → Data → Option Msg
msg_by names.ClientHello d = hello_of d
msg_by names.Kvs d = kvs_of d
msg_by name d = small_of name d

abbrev pub msg_if : Option Name → Data → Option Msg
msg_if None d = None
msg_if (Some n) d = msg_by n d

abbrev pub msg_of : Data → Option Msg
msg_of d = msg_if (named d) d
