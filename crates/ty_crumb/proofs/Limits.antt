-- What is within the limits stays so from the items to the map and the deltas.
use Rattle.std.proofs.Common.{◌≡◌, ℕ, Bool, true, false, cond, not, ◌&&◌, List, [], ◌∷◌, refl}
use Rattle.std.specs.Prelude.{Option, None, Some}
use Rattle.std.specs.declared.cmp.Ordering.TheVariants.{Less, Equal, Greater}
use Rattle.std.specs.List.{fold, filter, filter_map, list_all, cons_option}
use Rattle.std.specs.Str.{bytes_eq}
use Rattle.std.specs.Ordering.{nat_cmp}
use Rattle.std.specs.Cmp.Lexicographic.{slice_cmp}
use Rattle.std.specs.FinMap.Entries.{by_order}
use Rattle.ty_base.specs.declared.item.Item.{Item}
use Rattle.ty_base.specs.declared.item.Item.TheVariants.{Put, Del, State, Mark}
use Rattle.ty_base.specs.declared.delta.Delta.{Delta}
use Rattle.ty_base.specs.declared.delta.Kind.TheVariants.{Updated}
use Rattle.ty_base.specs.Feed.{Pairs, World, get, insert, after, key_of, firsts, change, changes}
use Rattle.ty_base.specs.Passing.{option_passes, pair_passes, item_passes, delta_passes}
use Rattle.ty_base.proofs.Passing.{both, left, right, get_passes}
use Rattle.ty_crumb.specs.Crumbs.{snapshot_of}

all_filter : {X : Type 0} (p t : X → Bool) (xs : List X) → list_all p xs ≡ true → list_all p (filter t xs) ≡ true
all_filter p t [] h = refl
all_filter p t (x ∷ xs) h =
    let rest : list_all p (filter t xs) ≡ true = all_filter p t xs (right (p x) (list_all p xs) h) in
    elim (t x) as (λ b. list_all p (cond b (x ∷ filter t xs) (filter t xs)) ≡ true) [
      | true ↦ both (left (p x) (list_all p xs) h) rest
      | false ↦ rest
    ]

module _ (k v : List ℕ → Bool) where
  put_passes : (key value : List ℕ) (m : Pairs) → k key ≡ true → v value ≡ true → list_all (pair_passes k v) m ≡ true → list_all (pair_passes k v) (insert m key value) ≡ true
  put_passes key value [] p q h = both (both p q) refl
  put_passes key value (e ∷ es) p q h =
      let here : pair_passes k v e ≡ true = left (pair_passes k v e) (list_all (pair_passes k v) es) h in
      let rest : list_all (pair_passes k v) es ≡ true = right (pair_passes k v e) (list_all (pair_passes k v) es) h in
      elim (slice_cmp nat_cmp key e.0) as (λ o. list_all (pair_passes k v) (by_order o ((key, value) ∷ e ∷ es) ((e.0, value) ∷ es) (e ∷ insert es key value)) ≡ true) [
        | Less ↦ both (both p q) h
        | Equal ↦ both (both (left (k e.0) (v e.1) here) q) rest
        | Greater ↦ both here (put_passes key value es p q rest)
      ]

  after_passes : (w : World) (x : Item) → item_passes k v x ≡ true → list_all (pair_passes k v) w.pairs ≡ true → list_all (pair_passes k v) (after w x).pairs ≡ true
  after_passes w (Put key value) p h = put_passes key value w.pairs (left (k key) (v value) p) (right (k key) (v value) p) h
  after_passes w (Del key) p h = all_filter (pair_passes k v) (λ e. not (bytes_eq key e.0)) w.pairs h
  after_passes w (State s) p h = h
  after_passes w Mark p h = h

  pub fold_passes : (items : List Item) (w : World) → list_all (item_passes k v) items ≡ true → list_all (pair_passes k v) w.pairs ≡ true → list_all (pair_passes k v) (fold after w items).pairs ≡ true
  fold_passes [] w p h = h
  fold_passes (x ∷ items) w p h =
      fold_passes items (after w x) (right (item_passes k v x) (list_all (item_passes k v) items) p) (after_passes w x (left (item_passes k v x) (list_all (item_passes k v) items) p) h)

  pub keys_pass : (items : List Item) → list_all (item_passes k v) items ≡ true → list_all k (filter_map key_of items) ≡ true
  keys_pass [] h = refl
  keys_pass (Put key value ∷ items) h = both (left (k key) (v value) (left (k key && v value) (list_all (item_passes k v) items) h)) (keys_pass items (right (k key && v value) (list_all (item_passes k v) items) h))
  keys_pass (Del key ∷ items) h = both (left (k key) (list_all (item_passes k v) items) h) (keys_pass items (right (k key) (list_all (item_passes k v) items) h))
  keys_pass (State s ∷ items) h = keys_pass items h
  keys_pass (Mark ∷ items) h = keys_pass items h

  pub firsts_pass : (ks : List (List ℕ)) → list_all k ks ≡ true → list_all k (firsts ks) ≡ true
  firsts_pass [] h = refl
  firsts_pass (x ∷ ks) h = both (left (k x) (list_all k ks) h) (all_filter k (λ q. not (bytes_eq x q)) (firsts ks) (firsts_pass ks (right (k x) (list_all k ks) h)))

  change_passes : (key : List ℕ) (a b : Option (List ℕ)) (ds : List Delta) → k key ≡ true → option_passes v b ≡ true → list_all (delta_passes k v) ds ≡ true → list_all (delta_passes k v) (cons_option (change key a b) ds) ≡ true
  change_passes key None None ds p q h = h
  change_passes key None (Some y) ds p q h = both (both p q) h
  change_passes key (Some x) None ds p q h = both (both p refl) h
  change_passes key (Some x) (Some y) ds p q h =
      let d : Delta = record { key = key; kind = Updated; value = Some y; told = refl } in
      elim (bytes_eq x y) as (λ t. list_all (delta_passes k v) (cons_option (cond t None (Some d)) ds) ≡ true) [
        | true ↦ h
        | false ↦ both (both p q) h
      ]

  pub changes_pass : (a b : Pairs) (ks : List (List ℕ)) → list_all (pair_passes k v) b ≡ true → list_all k ks ≡ true → list_all (delta_passes k v) (changes a b ks) ≡ true
  changes_pass a b [] h p = refl
  changes_pass a b (x ∷ ks) h p = change_passes x (get a x) (get b x) (changes a b ks) (left (k x) (list_all k ks) p) (get_passes k v b x h) (changes_pass a b ks h (right (k x) (list_all k ks) p))

  -- a batch that passes leaves a map and deltas that pass
  pub batch_passes : (w : World) (items : List Item) → list_all (item_passes k v) items ≡ true → list_all (pair_passes k v) w.pairs ≡ true
      → (list_all (pair_passes k v) (fold after w items).pairs && list_all (delta_passes k v) (changes w.pairs (fold after w items).pairs (firsts (filter_map key_of items)))) ≡ true
  batch_passes w items p h =
      let map_passes : list_all (pair_passes k v) (fold after w items).pairs ≡ true = fold_passes items w p h in
      both map_passes (changes_pass w.pairs (fold after w items).pairs (firsts (filter_map key_of items)) map_passes (firsts_pass (filter_map key_of items) (keys_pass items p)))

  pub snapshot_passes : (m : Pairs) → list_all (pair_passes k v) m ≡ true → list_all (delta_passes k v) (snapshot_of m) ≡ true
  snapshot_passes [] h = refl
  snapshot_passes (e ∷ es) h = both (left (pair_passes k v e) (list_all (pair_passes k v) es) h) (snapshot_passes es (right (pair_passes k v e) (list_all (pair_passes k v) es) h))
