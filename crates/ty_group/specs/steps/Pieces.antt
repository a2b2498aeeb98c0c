-- The text of a list of deltas, a comma behind each, and what it tells.
use Rattle.std.specs.Prelude.{true, ◌≡◌, ℕ, ◌-◌, List, [], ◌∷◌, ◌++◌, length, take, drop, map, flat_map, codes, Option, None, Some, option_and_then}
use Rattle.std.specs.List.{AllByRecursion}
use Rattle.serde_json.specs.Read.{read}
use Rattle.ty_base.specs.declared.delta.Delta.{Delta}
use Rattle.ty_base.specs.Limits.{deltas_fit}
use Rattle.ty_wire.specs.Wire.{delta_text, DeltaHasUtf8}
use Rattle.ty_wire.specs.Cut.{weight}
use Rattle.ty_wire.specs.steps.Members.{msg_of}
use Rattle.ty_wire.specs.declared.message.Msg.{Msg}
use Rattle.ty_wire.specs.declared.message.Msg.TheVariants.{ClientHello, ServerHello, Kvs, Status as StatusMsg, Crumb, Ping, Pong}
use Rattle.ty_group.specs.declared.mark.Mark.{Mark}

abbrev pub piece : Delta → List ℕ
piece d = delta_text d ++ 44 ∷ []

abbrev pub delta_pieces : List Delta → List ℕ
delta_pieces ds = flat_map piece ds

abbrev pub mark_of : Delta → Mark
mark_of d = record { len = length (piece d); weight = weight d }

-- the body of a KVs message whose deltas have this text, commas between them
abbrev pub kvs_body : List ℕ → List ℕ
kvs_body text = codes "{\"kvs\":[" ++ (text ++ codes "],\"m\":\"kvs\"}")

abbrev pub deltas_told : Option Msg → List Delta
deltas_told None = []
deltas_told (Some (ClientHello version host)) = []
deltas_told (Some (ServerHello version)) = []
deltas_told (Some (Kvs ds)) = ds
deltas_told (Some (StatusMsg s)) = []
deltas_told (Some (Crumb n)) = []
deltas_told (Some (Ping ts)) = []
deltas_told (Some (Pong ts)) = []

-- the deltas that a message with this text tells
abbrev pub told_by : List ℕ → List Delta
told_by text = deltas_told (option_and_then msg_of (read (kvs_body text)))

-- one after another, each without its comma
unfoldable pub told_in : List ℕ → List Mark → List Delta
told_in text [] = []
told_in text (m ∷ ms) = told_by (take (m.len - 1) text) ++ told_in (drop m.len text) ms

-- text and marks are those of these deltas, which have frames
pub record IsEncoding (text : List ℕ) (marks : List Mark) (ds : List Delta) : Type 0 where
  pub same : text ≡ delta_pieces ds
  pub each : marks ≡ map mark_of ds
  pub limits : deltas_fit ds ≡ true
  pub utf8 : AllByRecursion DeltaHasUtf8 ds

abbrev pub AreEncoded : List ℕ → List Mark → Type 0
AreEncoded text marks = IsEncoding text marks (told_in text marks)
