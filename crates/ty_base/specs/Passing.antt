-- Tests of keys and values, over items, pairs and deltas.
use Rattle.std.specs.Prelude.{ℕ, Bool, true, ◌&&◌, List, Option, None, Some}
use Rattle.ty_base.specs.declared.item.Item.{Item}
use Rattle.ty_base.specs.declared.item.Item.TheVariants.{Put, Del, State, Mark}
use Rattle.ty_base.specs.declared.delta.Delta.{Delta}

abbrev pub option_passes : (List ℕ → Bool) → Option (List ℕ) → Bool
option_passes v None = true
option_passes v (Some x) = v x

abbrev pub pair_passes : (List ℕ → Bool) → (List ℕ → Bool) → List ℕ × List ℕ → Bool
pair_passes k v p = k p.0 && v p.1

abbrev pub item_passes : (List ℕ → Bool) → (List ℕ → Bool) → Item → Bool
item_passes k v (Put key value) = k key && v value
item_passes k v (Del key) = k key
item_passes k v (State s) = true
item_passes k v Mark = true

abbrev pub delta_passes : (List ℕ → Bool) → (List ℕ → Bool) → Delta → Bool
delta_passes k v d = k d.key && option_passes v d.value
