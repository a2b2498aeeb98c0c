-- A map whose keys and values pass tests, changed by deltas that pass them, passes them.
use Rattle.std.proofs.Common.{◌≡◌, Bool, true, false, cond, not, List, [], ◌∷◌}
use Rattle.std.specs.Prelude.{ℕ, Option, None, Some}
use Rattle.std.specs.declared.cmp.Ordering.TheVariants.{Less, Equal, Greater}
use Rattle.std.specs.List.{list_all, filter, fold}
use Rattle.std.specs.Str.{bytes_eq}
use Rattle.std.specs.Ordering.{nat_cmp}
use Rattle.std.specs.Cmp.Lexicographic.{slice_cmp}
use Rattle.std.specs.FinMap.Entries.{by_order}
use Rattle.ty_base.specs.Feed.{Pairs, insert, put_value, changed}
use Rattle.ty_base.specs.Passing.{option_passes, pair_passes, delta_passes}
use Rattle.ty_base.proofs.Passing.{both, left, right}
use Rattle.ty_base.specs.declared.delta.Delta.{Delta}

module _ (k v : List ℕ → Bool) where
  abbrev pass : Pairs → Bool
  pass m = list_all (pair_passes k v) m

  filtered : (t : List ℕ × List ℕ → Bool) (m : Pairs) → pass m ≡ true → pass (filter t m) ≡ true
  filtered t [] h = h
  filtered t (e ∷ es) h =
      let rest : pass (filter t es) ≡ true = filtered t es (right (pair_passes k v e) (pass es) h) in
      elim (t e) as (λ b. pass (cond b (e ∷ filter t es) (filter t es)) ≡ true) [
        | true ↦ both (left (pair_passes k v e) (pass es) h) rest
        | false ↦ rest
      ]

  inserted : (key value : List ℕ) (m : Pairs) → k key ≡ true → v value ≡ true → pass m ≡ true → pass (insert m key value) ≡ true
  inserted key value [] p q h = both (both p q) h
  inserted key value (e ∷ es) p q h =
      let here : pair_passes k v e ≡ true = left (pair_passes k v e) (pass es) h in
      let rest : pass es ≡ true = right (pair_passes k v e) (pass es) h in
      elim (slice_cmp nat_cmp key e.0) as (λ o. pass (by_order o ((key, value) ∷ e ∷ es) ((e.0, value) ∷ es) (e ∷ insert es key value)) ≡ true) [
        | Less ↦ both (both p q) h
        | Equal ↦ both (both (left (k e.0) (v e.1) here) q) rest
        | Greater ↦ both here (inserted key value es p q rest)
      ]

  put-passes : (m : Pairs) (key : List ℕ) (value : Option (List ℕ)) → k key ≡ true → option_passes v value ≡ true → pass m ≡ true → pass (put_value m key value) ≡ true
  put-passes m key None p q h = filtered (λ e. not (bytes_eq key e.0)) m h
  put-passes m key (Some value) p q h = inserted key value m p q h

  pub changes-pass : (ds : List Delta) (m : Pairs) → list_all (delta_passes k v) ds ≡ true → list_all (pair_passes k v) m ≡ true → list_all (pair_passes k v) (fold changed m ds) ≡ true
  changes-pass [] m p h = h
  changes-pass (d ∷ ds) m p h =
      let t : delta_passes k v d ≡ true = left (delta_passes k v d) (list_all (delta_passes k v) ds) p in
      changes-pass ds (changed m d) (right (delta_passes k v d) (list_all (delta_passes k v) ds) p)
      (put-passes m d.key d.value (left (k d.key) (option_passes v d.value) t) (right (k d.key) (option_passes v d.value) t) h)
