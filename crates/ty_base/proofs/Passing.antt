-- What passes in the items passes in the worlds and the deltas.
use Rattle.std.proofs.Common.{◌≡◌, ℕ, ◌-◌, Bool, true, false, cond, not, ◌&&◌, List, [], ◌∷◌, take, drop, refl, sym, ap, ◌∙◌, true≢false}
use Rattle.std.specs.Prelude.{Option, None, Some}
use Rattle.std.specs.declared.cmp.Ordering.TheVariants.{Less, Equal, Greater}
use Rattle.std.specs.List.{fold, filter, filter_map, list_all, slice_range, cons_option}
use Rattle.std.specs.Str.{bytes_eq}
use Rattle.std.specs.Ordering.{nat_cmp, eq_by_cmp}
use Rattle.std.specs.Cmp.Lexicographic.{slice_cmp}
use Rattle.std.specs.FinMap.Entries.{by_order}
use Rattle.std.proofs.lemmas.List.{take-append-drop}
use Rattle.std.proofs.lemmas.List.Folds.{list_all-append}
use Rattle.ty_base.specs.declared.item.Item.{Item}
use Rattle.ty_base.specs.declared.item.Item.TheVariants.{Put, Del, State, Mark}
use Rattle.ty_base.specs.declared.delta.Delta.{Delta}
use Rattle.ty_base.specs.declared.delta.Kind.TheVariants.{Updated}
use Rattle.ty_base.specs.Feed.{Pairs, World, get, insert, after, start, world_at, world, cut, key_of, firsts, change, changes, closing_before, deltas}
use Rattle.ty_base.specs.Passing.{option_passes, pair_passes, item_passes, delta_passes}

pub both : {a b : Bool} → a ≡ true → b ≡ true → (a && b) ≡ true
both {a} {b} p q = ap (λ x. x && b) p ∙ q

pub left : (a b : Bool) → (a && b) ≡ true → a ≡ true
left true b h = refl
left false b h = absurd (true≢false (sym h))

pub right : (a b : Bool) → (a && b) ≡ true → b ≡ true
right true b h = h
right false b h = absurd (true≢false (sym h))

-- parts of a list

all_filter : {X : Type 0} (p t : X → Bool) (xs : List X) → list_all p xs ≡ true → list_all p (filter t xs) ≡ true
all_filter p t [] h = refl
all_filter p t (x ∷ xs) h =
    let rest : list_all p (filter t xs) ≡ true = all_filter p t xs (right (p x) (list_all p xs) h) in
    elim (t x) as (λ b. list_all p (cond b (x ∷ filter t xs) (filter t xs)) ≡ true) [
      | true ↦ both (left (p x) (list_all p xs) h) rest
      | false ↦ rest
    ]

all_parts : {X : Type 0} (p : X → Bool) (n : ℕ) (xs : List X) → list_all p xs ≡ true → (list_all p (take n xs) && list_all p (drop n xs)) ≡ true
all_parts p n xs h = sym (list_all-append p (take n xs) (drop n xs)) ∙ ap (list_all p) (take-append-drop n xs) ∙ h

pub all_take : {X : Type 0} (p : X → Bool) (n : ℕ) (xs : List X) → list_all p xs ≡ true → list_all p (take n xs) ≡ true
all_take p n xs h = left (list_all p (take n xs)) (list_all p (drop n xs)) (all_parts p n xs h)

pub all_drop : {X : Type 0} (p : X → Bool) (n : ℕ) (xs : List X) → list_all p xs ≡ true → list_all p (drop n xs) ≡ true
all_drop p n xs h = right (list_all p (take n xs)) (list_all p (drop n xs)) (all_parts p n xs h)

module _ (k v : List ℕ → Bool) where
  -- maps

  put_passes : (key value : List ℕ) (m : Pairs) → k key ≡ true → v value ≡ true → list_all (pair_passes k v) m ≡ true → list_all (pair_passes k v) (insert m key value) ≡ true
  put_passes key value [] p q h = both (both p q) refl
  put_passes key value (e ∷ es) p q h =
      let here : pair_passes k v e ≡ true = left (pair_passes k v e) (list_all (pair_passes k v) es) h in
      let rest : list_all (pair_passes k v) es ≡ true = right (pair_passes k v e) (list_all (pair_passes k v) es) h in
      elim (slice_cmp nat_cmp key e.0) as (λ o. list_all (pair_passes k v) (by_order o ((key, value) ∷ e ∷ es) ((e.0, value) ∷ es) (e ∷ insert es key value)) ≡ true) [
        | Less ↦ both (both p q) h
        | Equal ↦ both (both (left (k e.0) (v e.1) here) q) rest
        | Greater ↦ both here (put_passes key value es p q rest)
      ]

  pub get_passes : (m : Pairs) (q : List ℕ) → list_all (pair_passes k v) m ≡ true → option_passes v (get m q) ≡ true
  get_passes [] q h = refl
  get_passes (e ∷ es) q h =
      elim (eq_by_cmp (slice_cmp nat_cmp) q e.0) as (λ b. option_passes v (cond b (Some e.1) (get es q)) ≡ true) [
        | true ↦ right (k e.0) (v e.1) (left (pair_passes k v e) (list_all (pair_passes k v) es) h)
        | false ↦ get_passes es q (right (pair_passes k v e) (list_all (pair_passes k v) es) h)
      ]

  -- worlds

  after_passes : (w : World) (x : Item) → item_passes k v x ≡ true → list_all (pair_passes k v) w.pairs ≡ true → list_all (pair_passes k v) (after w x).pairs ≡ true
  after_passes w (Put key value) p h = put_passes key value w.pairs (left (k key) (v value) p) (right (k key) (v value) p) h
  after_passes w (Del key) p h = all_filter (pair_passes k v) (λ e. not (bytes_eq key e.0)) w.pairs h
  after_passes w (State s) p h = h
  after_passes w Mark p h = h

  fold_passes : (items : List Item) (w : World) → list_all (item_passes k v) items ≡ true → list_all (pair_passes k v) w.pairs ≡ true → list_all (pair_passes k v) (fold after w items).pairs ≡ true
  fold_passes [] w p h = h
  fold_passes (x ∷ items) w p h =
      fold_passes items (after w x) (right (item_passes k v x) (list_all (item_passes k v) items) p) (after_passes w x (left (item_passes k v x) (list_all (item_passes k v) items) p) h)

  pub world_passes : (items : List Item) (p : ℕ) → list_all (item_passes k v) items ≡ true → list_all (pair_passes k v) (world_at items p).pairs ≡ true
  world_passes items p h = fold_passes (take p items) start (all_take (item_passes k v) p items h) refl

  -- deltas

  keys_pass : (items : List Item) → list_all (item_passes k v) items ≡ true → list_all k (filter_map key_of items) ≡ true
  keys_pass [] h = refl
  keys_pass (Put key value ∷ items) h = both (left (k key) (v value) (left (k key && v value) (list_all (item_passes k v) items) h)) (keys_pass items (right (k key && v value) (list_all (item_passes k v) items) h))
  keys_pass (Del key ∷ items) h = both (left (k key) (list_all (item_passes k v) items) h) (keys_pass items (right (k key) (list_all (item_passes k v) items) h))
  keys_pass (State s ∷ items) h = keys_pass items h
  keys_pass (Mark ∷ items) h = keys_pass items h

  firsts_pass : (ks : List (List ℕ)) → list_all k ks ≡ true → list_all k (firsts ks) ≡ true
  firsts_pass [] h = refl
  firsts_pass (x ∷ ks) h = both (left (k x) (list_all k ks) h) (all_filter k (λ q. not (bytes_eq x q)) (firsts ks) (firsts_pass ks (right (k x) (list_all k ks) h)))

  change_passes : (key : List ℕ) (a b : Option (List ℕ)) (ds : List Delta) → k key ≡ true → option_passes v b ≡ true → list_all (delta_passes k v) ds ≡ true → list_all (delta_passes k v) (cons_option (change key a b) ds) ≡ true
  change_passes key None None ds p q h = h
  change_passes key None (Some y) ds p q h = both (both p q) h
  change_passes key (Some x) None ds p q h = both (both p refl) h
  change_passes key (Some x) (Some y) ds p q h =
      let d : Delta = record { key = key; kind = Updated; value = Some y; told = refl } in
      elim (bytes_eq x y) as (λ t. list_all (delta_passes k v) (cons_option (cond t None (Some d)) ds) ≡ true) [
        | true ↦ h
        | false ↦ both (both p q) h
      ]

  changes_pass : (a b : Pairs) (ks : List (List ℕ)) → list_all (pair_passes k v) b ≡ true → list_all k ks ≡ true → list_all (delta_passes k v) (changes a b ks) ≡ true
  changes_pass a b [] h p = refl
  changes_pass a b (x ∷ ks) h p = change_passes x (get a x) (get b x) (changes a b ks) (left (k x) (list_all k ks) p) (get_passes b x h) (changes_pass a b ks h (right (k x) (list_all k ks) p))

  pub deltas_pass : (ended : Bool) (items : List Item) (n : ℕ) → list_all (item_passes k v) items ≡ true → list_all (delta_passes k v) (deltas ended items n) ≡ true
  unfolding deltas
  deltas_pass ended items n h =
      let to : ℕ = cut ended items n in
      let from : ℕ = closing_before ended items to in
      changes_pass (world ended items (n - 1)).pairs (world ended items n).pairs (firsts (filter_map key_of (slice_range items from to))) (world_passes items to h)
      (firsts_pass (filter_map key_of (slice_range items from to)) (keys_pass (slice_range items from to) (all_take (item_passes k v) (to - from) (drop from items) (all_drop (item_passes k v) from items h))))
