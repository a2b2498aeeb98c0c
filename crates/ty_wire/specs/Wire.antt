-- The bytes of a message: its body, which is compact JSON (RFC 8259), behind the body's length as
-- four bytes, highest first.
use Rattle.std.specs.Prelude.{◌≡◌, refl, ℕ, ◌^◌, List, [], ◌∷◌, ◌++◌, length, flat_map, codes, decimal, Bool, true, ◌&&◌, nat_lt, nat_le, Option, None, Some, ⊤}
use Rattle.std.specs.List.{AllByRecursion}
use Rattle.std.specs.Str.{IsUtf8}
use Rattle.std.specs.Int.{to_be_bytes, w32}
use Rattle.json.specs.Print.{quoted}
use Rattle.serde_json.specs.Data.{Data}
use Rattle.serde_json.specs.Read.{read}
use Rattle.ty_base.specs.Statuses.{status_text}
use Rattle.ty_base.specs.declared.delta.Kind.{Kind}
use Rattle.ty_base.specs.declared.delta.Kind.TheVariants.{New, Updated, Deleted}
use Rattle.ty_base.specs.declared.delta.Delta.{Delta}
use Rattle.ty_base.specs.Limits.{deltas_fit}
use Rattle.ty_base.specs.declared.limits.TheConstants.{BODY_BYTES, MESSAGE_DELTAS}
use Rattle.ty_wire.specs.declared.message.Msg.{Msg}
use Rattle.ty_wire.specs.declared.message.Msg.TheVariants.{ClientHello, ServerHello, Kvs, Status as StatusMsg, Crumb, Ping, Pong}

abbrev pub kind_text : Kind → List ℕ
kind_text New = codes "new"
kind_text Updated = codes "updated"
kind_text Deleted = codes "deleted"

abbrev pub value_text : Option (List ℕ) → List ℕ
value_text None = []
value_text (Some v) = codes ",\"value\":" ++ quoted v

abbrev pub delta_text : Delta → List ℕ
delta_text d = codes "{\"key\":" ++ (quoted d.key ++ (codes ",\"type\":\"" ++ (kind_text d.kind ++ (codes "\"" ++ (value_text d.value ++ codes "}")))))

-- a pair as a delta that is new
abbrev pub new_pair : List ℕ → List ℕ → Delta
new_pair k v = record { key = k; kind = New; value = Some v; told = refl }

-- each behind a comma
unfoldable pub more_deltas : List Delta → List ℕ
more_deltas [] = []
more_deltas (d ∷ ds) = 44 ∷ (delta_text d ++ more_deltas ds)

abbrev pub deltas_text : List Delta → List ℕ
deltas_text [] = []
deltas_text (d ∷ ds) = delta_text d ++ more_deltas ds

abbrev pub body : Msg → List ℕ
body (ClientHello version host) = codes "{\"host\":" ++ (quoted host ++ (codes ",\"m\":\"client_hello\",\"version\":" ++ (decimal version ++ codes "}")))
body (ServerHello version) = codes "{\"m\":\"server_hello\",\"version\":" ++ (decimal version ++ codes "}")
body (Kvs ds) = codes "{\"kvs\":[" ++ (deltas_text ds ++ codes "],\"m\":\"kvs\"}")
body (StatusMsg s) = codes "{\"m\":\"status\",\"status\":\"" ++ (status_text s ++ codes "\"}")
body (Crumb n) = codes "{\"m\":\"crumb\",\"n\":" ++ (decimal n ++ codes "}")
body (Ping ts) = codes "{\"m\":\"ping\",\"ts\":" ++ (decimal ts ++ codes "}")
body (Pong ts) = codes "{\"m\":\"pong\",\"ts\":" ++ (decimal ts ++ codes "}")

abbrev pub frame : Msg → List ℕ
frame m = to_be_bytes w32 (length (body m)) ++ body m

abbrev pub frames : List Msg → List ℕ
frames ms = flat_map frame ms

abbrev pub parts_fit : Msg → Bool
parts_fit (ClientHello version host) = nat_lt version (2 ^ 64)
parts_fit (ServerHello version) = nat_lt version (2 ^ 64)
parts_fit (Kvs ds) = nat_lt 0 (length ds) && nat_le (length ds) MESSAGE_DELTAS && deltas_fit ds
parts_fit (StatusMsg s) = true
parts_fit (Crumb n) = nat_lt n (2 ^ 64)
parts_fit (Ping ts) = nat_lt ts (2 ^ 64)
parts_fit (Pong ts) = nat_lt ts (2 ^ 64)

abbrev pub message_fits : Msg → Bool
message_fits m = parts_fit m && nat_le (length (body m)) BODY_BYTES

-- a JSON text that `serde_json` reads
abbrev pub IsJson : List ℕ → Type 0
IsJson bytes = IsUtf8 bytes × ((d : Data) × (read bytes ≡ Some d))

-- the one spelling of a message
pub record Spells (bytes : List ℕ) (m : Msg) : Type 0 where
  pub utf8 : IsUtf8 bytes
  pub fits : message_fits m ≡ true
  pub same : bytes ≡ body m

-- the body is UTF-8 and the message fits
abbrev pub IsWire : Msg → Type 0
IsWire m = Spells (body m) m

-- The texts of a message are UTF-8 (RFC 3629), as those of the program are

abbrev pub ValueHasUtf8 : Option (List ℕ) → Type 0
ValueHasUtf8 None = ⊤
ValueHasUtf8 (Some v) = IsUtf8 v

abbrev pub DeltaHasUtf8 : Delta → Type 0
DeltaHasUtf8 d = IsUtf8 d.key × ValueHasUtf8 d.value

abbrev pub HasUtf8 : Msg → Type 0
HasUtf8 (ClientHello version host) = IsUtf8 host
HasUtf8 (Kvs ds) = AllByRecursion DeltaHasUtf8 ds
HasUtf8 _ = ⊤
