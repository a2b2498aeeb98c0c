-- The end of a feed: what is pending closes, and the last line.
use Rattle.std.proofs.Common.{◌≡◌, ◌∙◌, ap, sym, subst, refl, ℕ, zero, suc, ◌+◌, ◌-◌, ◌<◌, ◌≤◌, ◌%◌, ◌++◌, ◌||◌, ◌==◌, Bool, true, false, cond, List, [], ◌∷◌, length, take, drop, inl, inr, append-nil, append_assoc, arith, add-one, take_all, eq-eqb, ne_eqb, length-drop}
use Rattle.std.specs.Prelude.{None, ◌⊎◌}
use Rattle.std.specs.List.{filter, list_all, range_with_len, slice_range, suffix_len}
use Rattle.ty_base.specs.declared.item.Item.{Item}
use Rattle.ty_base.specs.Feed.{is_update, is_closing, closings, last_of}
use Rattle.ty_intake.specs.Batches.{batches_between, batches, batch_fits}
use Rattle.ty_intake.specs.steps.Progress.{ProgressFollows, IsEnded}
use Rattle.ty_intake.specs.declared.batch.Closed.{Closed}
use Rattle.ty_intake.specs.declared.progress.Progress.{Progress}
use Rattle.ty_intake.proofs.JoinedBatches.{rises-filter, last-between}
use Rattle.ty_intake.proofs.Closings.{filter-same, filter-last, last-more, last_closing, batches-split, Pends, pends-drop, pends-sum}
use Rattle.ty_intake.proofs.Faults.{fault-nil}
use Rattle.ty_intake.proofs.ReadLines.{pends}

-- ---- closings of a feed that has ended

-- a position passes f, or is added as the last one
AddsLast : (ℕ → Bool) → (ℕ → Bool) → ℕ → Type 0
AddsLast t f n =
    ((filter t (range_with_len 1 n) ≡ filter f (range_with_len 1 n)) × (last_of 0 (filter f (range_with_len 1 n)) ≡ n))
    ⊎ ((filter t (range_with_len 1 n) ≡ filter f (range_with_len 1 n) ++ n ∷ []) × (last_of 0 (filter f (range_with_len 1 n)) < n))

adds-at : (t f : ℕ → Bool) (k : ℕ) → ((p : ℕ) → p < k + 1 → t p ≡ f p) → t (k + 1) ≡ true → AddsLast t f (k + 1)
unfolding AddsLast
adds-at t f k same last =
    let n : ℕ = k + 1 in
    let before : List ℕ = filter f (range_with_len 1 k) in
    let all : filter t (range_with_len 1 n) ≡ before ++ n ∷ [] =
    filter-last t k
    ∙ ap (λ xs. xs ++ cond (t n) (n ∷ []) []) (filter-same t f k 1 (λ p l m. same p (omega arith)))
    ∙ ap (λ b. before ++ cond b (n ∷ []) []) last in
    elim (f n) as (λ v. f n ≡ v → AddsLast t f n) [
      | true ↦ λ e.
          let part : filter f (range_with_len 1 n) ≡ before ++ n ∷ [] = filter-last f k ∙ ap (λ b. before ++ cond b (n ∷ []) []) e in
          inl (all ∙ sym part, ap (last_of 0) part ∙ last-more before 0 n)
      | false ↦ λ e.
          let part : filter f (range_with_len 1 n) ≡ before = filter-last f k ∙ ap (λ b. before ++ cond b (n ∷ []) []) e ∙ append-nil before in
          let low : last_of 0 before ≤ k = (last-between k before 0 (rises-filter f k 1 0 k (omega arith) (omega arith) (omega arith))).1 in
          inr (all ∙ ap (λ xs. xs ++ n ∷ []) (sym part), omega (arith, low, ap (last_of 0) part))
    ] refl

adds : (t f : ℕ → Bool) (n : ℕ) → ((p : ℕ) → p < n → t p ≡ f p) → t n ≡ true → AddsLast t f n
unfolding AddsLast
adds t f zero same last = inl (refl, refl)
adds t f (suc k) same last =
    let P : ℕ → Type 0 = λ n. ((p : ℕ) → p < n → t p ≡ f p) → t n ≡ true → AddsLast t f n in
    subst P (add-one k) (adds-at t f k) same last

or-true : (a b : Bool) → b ≡ true → (a || b) ≡ true
or-true true b h = refl
or-true false b h = h

below-end : (items : List Item) (p : ℕ) → p < length items → is_closing true items p ≡ is_closing false items p
below-end items p h = ap (λ e. (suffix_len is_update (take p items) % 100 == 0) || e) (ne_eqb p (length items) (λ e. omega arith))

pub EndsBy : List Item → Type 0
EndsBy items =
    ((closings true items ≡ closings false items) × (last_closing items ≡ length items))
    ⊎ ((closings true items ≡ closings false items ++ length items ∷ []) × (last_closing items < length items))

ends-by : (items : List Item) → EndsBy items
unfolding EndsBy AddsLast closings
ends-by items =
    adds (is_closing true items) (is_closing false items) (length items) (below-end items)
    (or-true (suffix_len is_update (take (length items) items) % 100 == 0) (length items == length items) (eq-eqb (length items) (length items) refl))

-- ---- the last batch

pub end-none : (items : List Item) (cut : ℕ) (pending : List Item) → Pends items cut pending → length pending ≡ 0 → batches true items ≡ batches false items
unfolding batches EndsBy
end-none items cut pending h z =
    let e : length pending ≡ length items - last_closing items = ap length (pends-drop items cut pending h) ∙ length-drop (last_closing items) items in
    elim (ends-by items) [
      | inl p ↦ ap (batches_between items 0) p.0
      | inr p ↦ absurd (omega (arith, p.1))
    ]

range-end : (items : List Item) → slice_range items (last_closing items) (length items) ≡ drop (last_closing items) items
range-end items = take_all (length items - last_closing items) (drop (last_closing items) items) (omega (arith, length-drop (last_closing items) items))

pub end-some : (items : List Item) (cut : ℕ) (pending : List Item) → Pends items cut pending → 0 < length pending
    → batches true items ≡ batches false items ++ record { items = pending; cut = cut + length pending } ∷ []
unfolding batches EndsBy
end-some items cut pending h z =
    let e : length pending ≡ length items - last_closing items = ap length (pends-drop items cut pending h) ∙ length-drop (last_closing items) items in
    elim (ends-by items) [
      | inl p ↦ absurd (omega (arith, p.1))
      | inr p ↦
          ap (batches_between items 0) p.0
          ∙ batches-split items (closings false items) (length items ∷ []) 0
          ∙ ap (λ xs. batches_between items 0 (closings false items) ++ record { items = xs; cut = length items } ∷ []) (range-end items ∙ sym (pends-drop items cut pending h))
          ∙ ap (λ k. batches_between items 0 (closings false items) ++ record { items = pending; cut = k } ∷ []) (sym (pends-sum items cut pending h))
    ]

pub close-none : (r : Progress) (earlier : List Closed) (items : List Item) → length r.pending ≡ 0 → ProgressFollows earlier items r → batches true items ≡ earlier ++ r.closed
close-none r earlier items z h = end-none items r.cut r.pending (pends earlier items r h) z ∙ h.batched

pub close-some : (old new : Progress) (earlier : List Closed) (items : List Item) → 0 < length old.pending
    → new.closed ≡ old.closed ++ record { items = old.pending; cut = old.cut + length old.pending } ∷ []
    → ProgressFollows earlier items old → batches true items ≡ earlier ++ new.closed
close-some old new earlier items z e h =
    end-some items old.cut old.pending (pends earlier items old h) z
    ∙ ap (λ bs. bs ++ record { items = old.pending; cut = old.cut + length old.pending } ∷ []) h.batched
    ∙ append_assoc earlier old.closed (record { items = old.pending; cut = old.cut + length old.pending } ∷ [])
    ∙ ap (λ bs. earlier ++ bs) (sym e)

-- ---- the last line

pub no-last : (rest : List ℕ) (old new : Progress) → length rest ≡ 0
    → ((earlier : List Closed) (items : List Item) → ProgressFollows earlier items old → batches true items ≡ earlier ++ new.closed) → list_all batch_fits new.closed ≡ true
    → IsEnded rest old new None
no-last [] old new z f c = record {
  first = sym (fault-nil old.lines);
  batched = λ earlier items h. ap (batches true) (append-nil items) ∙ f earlier items h;
  closed_fit = c;
}
no-last (x ∷ xs) old new z f c = absurd (omega (arith, z))

-- ---- a test for the empty list

pub some-length : {A : Type 0} (xs : List A) → (length xs == 0) ≡ false → 0 < length xs
some-length {A} [] e = cc
some-length {A} (x ∷ xs) e = omega arith
