-- How deltas are cut into KVs messages. Nothing here is of slices or of counting as one goes.
use Rattle.std.specs.Prelude.{ℕ, ◌+◌, List, [], ◌∷◌, ◌++◌, length, Bool, cond, ◌&&◌, nat_lt, nat_le, Option, None, Some}
use Rattle.std.specs.List.{sum_by}
use Rattle.ty_base.specs.declared.limits.TheConstants.{MESSAGE_DELTAS, VALUE_BYTES}
use Rattle.ty_base.specs.declared.delta.Delta.{Delta}

abbrev pub value_len : Option (List ℕ) → ℕ
value_len None = 0
value_len (Some v) = length v

-- the bytes of its key and its value
abbrev pub weight : Delta → ℕ
weight d = length d.key + value_len d.value

-- a message with these deltas takes the next one: it has fewer than MESSAGE_DELTAS, and with it at
-- most VALUE_BYTES
abbrev pub takes : List Delta → Delta → Bool
takes filling d = nat_lt (length filling) MESSAGE_DELTAS && nat_le (sum_by weight filling + weight d) VALUE_BYTES

-- the messages of what is left, behind the message that is being filled
unfoldable pub cut_on : List Delta → List Delta → List (List Delta)
cut_on filling [] = filling ∷ []
cut_on filling (d ∷ ds) = cond (takes filling d) (cut_on (filling ++ d ∷ []) ds) (filling ∷ cut_on (d ∷ []) ds)

-- a message takes its first delta whatever it weighs, and none is empty
abbrev pub cut_deltas : List Delta → List (List Delta)
cut_deltas [] = []
cut_deltas (d ∷ ds) = cut_on (d ∷ []) ds
