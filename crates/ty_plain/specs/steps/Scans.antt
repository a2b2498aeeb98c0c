-- What the scans of a list of items find, step by step.
use Rattle.std.specs.Prelude.{ℕ, ◌<◌, ◌≤◌, ◌∷◌, length, slice_index, List, [], cond, Option, None, Some, Bool, true, false, refl}
use Rattle.std.specs.Bool.{nat_lt}
use Rattle.std.specs.List.{list_any, filter, filter_map, slice_range}
use Rattle.std.specs.Option.{option_to_list}
use Rattle.std.specs.Str.{bytes_eq}
use Rattle.ty_base.specs.declared.item.Item.{Item}
use Rattle.ty_base.specs.declared.item.Item.TheVariants.{Put, Del}
use Rattle.ty_base.specs.declared.delta.Delta.{Delta}
use Rattle.ty_base.specs.declared.delta.Kind.TheVariants.{Updated, Deleted}
use Rattle.ty_base.specs.declared.entry.Entry.{Entry}
use Rattle.ty_base.specs.Feed.{World, Pairs, get, change, changes, firsts, key_of, last_of, world_at}
use Rattle.ty_base.specs.Readings.{is_about}

-- what a key has behind an item, by what it had before
abbrev pub value_behind : List ℕ → Item → Option (List ℕ) → Option (List ℕ)
value_behind q (Put k v) before = cond (bytes_eq q k) (Some v) before
value_behind q (Del k) before = cond (bytes_eq q k) None before
value_behind q _ before = before

abbrev pub same_option : Option (List ℕ) → Option (List ℕ) → Bool
same_option None None = true
same_option (Some u) (Some v) = bytes_eq u v
same_option _ _ = false

-- two worlds have the same at the item's key, if it has one
abbrev pub agrees : World → World → Item → Bool
agrees a b (Put k v) = same_option (get a.pairs k) (get b.pairs k)
agrees a b (Del k) = same_option (get a.pairs k) (get b.pairs k)
agrees a b _ = true

-- the positions lie from low to high and never fall
abbrev pub NeverFall : ℕ → ℕ → List ℕ → Type 0
NeverFall low high ps = (k : ℕ) → k < length ps → (slice_index (low ∷ ps) k ≤ slice_index ps k) × (slice_index ps k ≤ high)

abbrev pub updated : List ℕ → List ℕ → Delta
updated k v = record { key = k; kind = Updated; value = Some v; told = refl }

abbrev pub deleted : List ℕ → Delta
deleted k = record { key = k; kind = Deleted; value = None; told = refl }

-- the change at a key that no earlier item speaks of
abbrev pub unseen_change : Pairs → Pairs → List Item → List ℕ → List Delta
unseen_change a b earlier k = cond (list_any (is_about k) earlier) [] (option_to_list (change k (get a k) (get b k)))

-- the last of some positions that is before another, or 0
abbrev pub last_before : List ℕ → ℕ → ℕ
last_before ps c = last_of 0 (filter (λ p. nat_lt p c) ps)

-- the entry of a cut at c, where the cut before is at last and the closings are ps
abbrev pub entry_between : List Item → List ℕ → ℕ → ℕ → Entry
entry_between items ps last c = record {
  cut = c;
  status = (world_at items c).status;
  deltas = changes (world_at items last).pairs (world_at items c).pairs (firsts (filter_map key_of (slice_range items (last_before ps c) c)));
}
