-- For private clauses: deltas that stand at the front of bytes as a body spells them.
use Rattle.std.specs.Prelude.{◌≡◌, ℕ, ◌<◌, ◌≤◌, List, [], ◌∷◌, ◌++◌, codes, length, flat_map, true}
use Rattle.std.specs.List.{AllByRecursion}
use Rattle.ty_base.specs.Limits.{deltas_fit}
use Rattle.ty_base.specs.declared.limits.TheConstants.{MESSAGE_DELTAS}
use Rattle.ty_base.specs.declared.delta.Kind.{Kind}
use Rattle.ty_base.specs.declared.delta.Delta.{Delta}
use Rattle.ty_wire.specs.Wire.{delta_text, deltas_text, value_text, DeltaHasUtf8}

-- deltas that a message may have
pub record AreSendable (ds : List Delta) : Type 0 where
  pub most : length ds ≤ MESSAGE_DELTAS
  pub limits : deltas_fit ds ≡ true
  pub utf8 : AllByRecursion DeltaHasUtf8 ds

-- the bytes are the text of these deltas and the end of a body
pub record AreSpelled (bytes : List ℕ) (ds : List Delta) : Type 0 where
  pub some : 0 < length ds
  pub small : AreSendable ds
  pub text : bytes ≡ deltas_text ds ++ codes "],\"m\":\"kvs\"}"

-- a delta's text and a comma
abbrev pub delta_piece : Delta → List ℕ
delta_piece d = delta_text d ++ 44 ∷ []

-- the bytes are the text of these deltas, each with a comma, and a rest
pub record ArePieces (bytes : List ℕ) (ds : List Delta) (rest : List ℕ) : Type 0 where
  pub small : AreSendable ds
  pub text : bytes ≡ flat_map delta_piece ds ++ rest

-- the delta has this key and kind, and its value's text, the closing bracket and a rest are the bytes
pub record IsWithValue (key : List ℕ) (kind : Kind) (bytes : List ℕ) (d : Delta) (rest : List ℕ) : Type 0 where
  pub key_is : d.key ≡ key
  pub kind_is : d.kind ≡ kind
  pub text : bytes ≡ value_text d.value ++ (codes "}" ++ rest)
