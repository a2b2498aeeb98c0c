-- The closings and the batches of a list of items with one more, and at the end of a feed.
use Rattle.std.proofs.Common.{◌≡◌, ℕ, zero, suc, ◌+◌, ◌-◌, ◌<◌, ◌≤◌, ◌%◌, Bool, true, false, cond, not, ◌||◌, ◌==◌, List, [], ◌∷◌, ◌++◌, length, take, drop, reverse, refl, sym, ap, subst, ◌∙◌, arith, append-nil, append_assoc, take_all, eq-eqb, ne_eqb, eqb-true, true≢false, length-append, length-drop, drop_of_length-le}
use Rattle.std.specs.List.{filter, range_with_len, slice_range, suffix_len, prefix_len}
use Rattle.std.proofs.lemmas.List.{take-append-le, drop-append-le, reverse-append}
use Rattle.std.proofs.lemmas.List.Elements.{filter-append}
use Rattle.ty_base.specs.declared.item.Item.{Item}
use Rattle.ty_base.specs.Feed.{is_update, is_closing, closings, last_of}
use Rattle.ty_base.proofs.Cuts.{range_split}
use Rattle.ty_intake.specs.Batches.{batches_between, batches}
use Rattle.ty_intake.proofs.JoinedBatches.{Rises, closings-rise, last-between}

-- ---- positions

pub filter-same : (t u : ℕ → Bool) (k a : ℕ) → ((p : ℕ) → a ≤ p → p < a + k → t p ≡ u p) → filter t (range_with_len a k) ≡ filter u (range_with_len a k)
filter-same t u zero a h = refl
filter-same t u (suc k) a h =
    ap (λ b. cond b (a ∷ filter t (range_with_len (a + 1) k)) (filter t (range_with_len (a + 1) k))) (h a (omega arith) (omega arith))
    ∙ ap (λ xs. cond (u a) (a ∷ xs) xs) (filter-same t u k (a + 1) (λ p l m. h p (omega arith) (omega arith)))

-- the positions up to n + 1 that pass
pub filter-last : (test : ℕ → Bool) (n : ℕ) → filter test (range_with_len 1 (n + 1)) ≡ filter test (range_with_len 1 n) ++ cond (test (n + 1)) ((n + 1) ∷ []) []
filter-last test n =
    ap (filter test) (range_split n 1 1 (n + 1) (omega arith))
    ∙ filter-append test (range_with_len 1 n) (range_with_len (n + 1) 1)

pub last-more : (xs : List ℕ) (d x : ℕ) → last_of d (xs ++ x ∷ []) ≡ x
last-more [] d x = refl
last-more (y ∷ ys) d x = last-more ys y x

-- ---- updates in a row

suffix-yes : (items : List Item) (x : Item) → is_update x ≡ true → suffix_len is_update (items ++ x ∷ []) ≡ 1 + suffix_len is_update items
suffix-yes items x e =
    ap (prefix_len is_update) (reverse-append items (x ∷ []))
    ∙ ap (λ b. cond b (1 + prefix_len is_update (reverse items)) 0) e

suffix-no : (items : List Item) (x : Item) → is_update x ≡ false → suffix_len is_update (items ++ x ∷ []) ≡ 0
suffix-no items x e =
    ap (prefix_len is_update) (reverse-append items (x ∷ []))
    ∙ ap (λ b. cond b (1 + prefix_len is_update (reverse items)) 0) e

-- ---- closings

or-false : (a : Bool) → (a || false) ≡ a
or-false true = refl
or-false false = refl

-- whether a batch closes behind all these items
abbrev pub closes_at_end : List Item → Bool
closes_at_end items = suffix_len is_update items % 100 == 0

closing-front : (items more : List Item) (p : ℕ) → p ≤ length items → is_closing false (items ++ more) p ≡ is_closing false items p
closing-front items more p h = ap (λ xs. (suffix_len is_update xs % 100 == 0) || false) (take-append-le p items more h)

closing-end : (items : List Item) (n : ℕ) → length items ≡ n → is_closing false items n ≡ closes_at_end items
closing-end items n e = or-false _ ∙ ap (λ xs. suffix_len is_update xs % 100 == 0) (take_all n items (omega arith))

pub closings-more : (items : List Item) (x : Item) → closings false (items ++ x ∷ []) ≡ closings false items ++ cond (closes_at_end (items ++ x ∷ [])) ((length items + 1) ∷ []) []
unfolding closings
closings-more items x =
    let all : List Item = items ++ x ∷ [] in
    let n : ℕ = length items in
    let e : length all ≡ n + 1 = length-append items (x ∷ []) in
    ap (λ k. filter (is_closing false all) (range_with_len 1 k)) e
    ∙ filter-last (is_closing false all) n
    ∙ ap (λ xs. xs ++ cond (is_closing false all (n + 1)) ((n + 1) ∷ []) []) (filter-same (is_closing false all) (is_closing false items) n 1 (λ p l m. closing-front items (x ∷ []) p (omega arith)))
    ∙ ap (λ b. filter (is_closing false items) (range_with_len 1 n) ++ cond b ((n + 1) ∷ []) []) (closing-end all (n + 1) e)

-- a list of items grows from nothing, one by one
grown : (P : List Item → Type 0) → ((xs : List Item) (x : Item) → P xs → P (xs ++ x ∷ [])) → (xs ys : List Item) → P xs → P (xs ++ ys)
grown P step xs [] h = subst P (sym (append-nil xs)) h
grown P step xs (y ∷ ys) h = subst P (append_assoc xs (y ∷ []) ys) (grown P step (xs ++ y ∷ []) ys (step xs y h))

-- ---- what is pending behind the last closing

abbrev pub last_closing : List Item → ℕ
last_closing items = last_of 0 (closings false items)

pub last-within : (items : List Item) → last_closing items ≤ length items
last-within items = (last-between (length items) (closings false items) 0 (closings-rise false items)).1

last-closed : (items : List Item) (x : Item) → closes_at_end (items ++ x ∷ []) ≡ true → last_closing (items ++ x ∷ []) ≡ length items + 1
last-closed items x e =
    ap (last_of 0) (closings-more items x ∙ ap (λ b. closings false items ++ cond b ((length items + 1) ∷ []) []) e)
    ∙ last-more (closings false items) 0 (length items + 1)

last-stays : (items : List Item) (x : Item) → closes_at_end (items ++ x ∷ []) ≡ false → last_closing (items ++ x ∷ []) ≡ last_closing items
last-stays items x e =
    ap (last_of 0) (closings-more items x ∙ ap (λ b. closings false items ++ cond b ((length items + 1) ∷ []) []) e ∙ append-nil (closings false items))

pub drop-end : (items : List Item) (x : Item) (c : ℕ) → c ≡ length items + 1 → drop c (items ++ x ∷ []) ≡ []
drop-end items x c e = drop_of_length-le (items ++ x ∷ []) (omega (arith, length-append items (x ∷ [])))

abbrev Counted : List Item → Type 0
Counted items = length (drop (last_closing items) items) ≡ suffix_len is_update items % 100

counted-closed : (items : List Item) (x : Item) → closes_at_end (items ++ x ∷ []) ≡ true → Counted (items ++ x ∷ [])
counted-closed items x e =
    ap length (drop-end items x (last_closing (items ++ x ∷ [])) (last-closed items x e))
    ∙ sym (eqb-true (suffix_len is_update (items ++ x ∷ []) % 100) 0 e)

mod-more : (s t : ℕ) → t ≡ 1 + s → (t % 100 ≡ 0 → ⊥) → s % 100 + 1 ≡ t % 100
mod-more s t e h = omega arith

eqb-not : (a b : ℕ) → (a == b) ≡ false → a ≡ b → ⊥
eqb-not a b e q = true≢false (sym (eq-eqb a b q) ∙ e)

pub drop-more : (items : List Item) (x : Item) → drop (last_closing items) (items ++ x ∷ []) ≡ drop (last_closing items) items ++ x ∷ []
drop-more items x = drop-append-le (last_closing items) items (x ∷ []) (last-within items)

counted-stays : (items : List Item) (x : Item) → closes_at_end (items ++ x ∷ []) ≡ false → Counted items → Counted (items ++ x ∷ [])
counted-stays items x e h =
    let s : ℕ = suffix_len is_update items in
    let t : ℕ = suffix_len is_update (items ++ x ∷ []) in
    elim (is_update x) as (λ v. is_update x ≡ v → Counted (items ++ x ∷ [])) [
      | true ↦ λ u.
          ap (λ c. length (drop c (items ++ x ∷ []))) (last-stays items x e)
          ∙ ap length (drop-more items x)
          ∙ length-append (drop (last_closing items) items) (x ∷ [])
          ∙ ap (λ k. k + 1) h
          ∙ mod-more s t (suffix-yes items x u) (eqb-not (t % 100) 0 e)
      | false ↦ λ u. absurd (eqb-not (t % 100) 0 e (ap (λ k. k % 100) (suffix-no items x u)))
    ] refl

pub counted : (items : List Item) → Counted items
unfolding closings
counted items = grown Counted (λ xs x h. elim (closes_at_end (xs ++ x ∷ [])) as (λ v. closes_at_end (xs ++ x ∷ []) ≡ v → Counted (xs ++ x ∷ [])) [
  | true ↦ λ e. counted-closed xs x e
  | false ↦ λ e. counted-stays xs x e h
] refl) [] items refl

-- ---- batches

pub batches-split : (items : List Item) (ps qs : List ℕ) (from : ℕ) → batches_between items from (ps ++ qs) ≡ batches_between items from ps ++ batches_between items (last_of from ps) qs
batches-split items [] qs from = refl
batches-split items (p ∷ ps) qs from = ap (λ bs. record { items = slice_range items from p; cut = p } ∷ bs) (batches-split items ps qs p)

range-front : (items more : List Item) (a b : ℕ) → a ≤ b → b ≤ length items → slice_range (items ++ more) a b ≡ slice_range items a b
range-front items more a b h k =
    ap (take (b - a)) (drop-append-le a items more (omega arith)) ∙ take-append-le (b - a) (drop a items) more (omega (arith, length-drop a items))

batches-front : (items more : List Item) (ps : List ℕ) (from : ℕ) → Rises (length items) from ps → batches_between (items ++ more) from ps ≡ batches_between items from ps
batches-front items more [] from h = refl
batches-front items more (p ∷ ps) from h =
    let within : p ≤ length items = omega (arith, last-between (length items) ps p h.1) in
    ap (λ xs. record { items = xs; cut = p } ∷ batches_between (items ++ more) p ps) (range-front items more from p h.0 within)
    ∙ ap (λ bs. record { items = slice_range items from p; cut = p } ∷ bs) (batches-front items more ps p h.1)

range-last : (items : List Item) (x : Item) → slice_range (items ++ x ∷ []) (last_closing items) (length items + 1) ≡ drop (last_closing items) items ++ x ∷ []
range-last items x =
    let c : ℕ = last_closing items in
    let all : List Item = drop c items ++ x ∷ [] in
    let long : length all ≡ length items - c + 1 = length-append (drop c items) (x ∷ []) ∙ ap (λ k. k + 1) (length-drop c items) in
    ap (take (length items + 1 - c)) (drop-more items x) ∙ take_all (length items + 1 - c) all (omega (arith, last-within items, long))

pub batches-stay : (items : List Item) (x : Item) → closes_at_end (items ++ x ∷ []) ≡ false → batches false (items ++ x ∷ []) ≡ batches false items
unfolding batches
batches-stay items x e =
    ap (batches_between (items ++ x ∷ []) 0) (closings-more items x ∙ ap (λ b. closings false items ++ cond b ((length items + 1) ∷ []) []) e ∙ append-nil (closings false items))
    ∙ batches-front items (x ∷ []) (closings false items) 0 (closings-rise false items)

pub batches-close : (items : List Item) (x : Item) → closes_at_end (items ++ x ∷ []) ≡ true
    → batches false (items ++ x ∷ []) ≡ batches false items ++ record { items = drop (last_closing items) items ++ x ∷ []; cut = length items + 1 } ∷ []
unfolding batches
batches-close items x e =
    let all : List Item = items ++ x ∷ [] in
    let n : ℕ = length items + 1 in
    let before : List ℕ = closings false items in
    ap (batches_between all 0) (closings-more items x ∙ ap (λ b. before ++ cond b (n ∷ []) []) e)
    ∙ batches-split all before (n ∷ []) 0
    ∙ ap (λ bs. bs ++ batches_between all (last_closing items) (n ∷ [])) (batches-front items (x ∷ []) before 0 (closings-rise false items))
    ∙ ap (λ xs. batches_between items 0 before ++ record { items = xs; cut = n } ∷ []) (range-last items x)

-- ---- what one more item makes of what is pending

pub record Pends (items : List Item) (cut : ℕ) (pending : List Item) : Type 0 where
  pub at : cut ≡ last_closing items
  pub later : pending ≡ drop cut items

pub pends-drop : (items : List Item) (cut : ℕ) (pending : List Item) → Pends items cut pending → pending ≡ drop (last_closing items) items
pends-drop items cut pending h = h.later ∙ ap (λ c. drop c items) h.at

pends-count : (items : List Item) (cut : ℕ) (pending : List Item) → Pends items cut pending → length pending ≡ suffix_len is_update items % 100
pends-count items cut pending h = ap length (pends-drop items cut pending h) ∙ counted items

pub pends-sum : (items : List Item) (cut : ℕ) (pending : List Item) → Pends items cut pending → cut + length pending ≡ length items
pends-sum items cut pending h = omega (arith, h.at, ap length (pends-drop items cut pending h), length-drop (last_closing items) items, last-within items)

hundredth : (s t k : ℕ) → t ≡ 1 + s → k ≡ s % 100 → k + 1 ≡ 100 → t % 100 ≡ 0
hundredth s t k e f g = omega arith

between : (s t k : ℕ) → t ≡ 1 + s → k ≡ s % 100 → k < 100 → (k + 1 ≡ 100 → ⊥) → t % 100 ≡ 0 → ⊥
between s t k e f g h i = omega arith

-- a batch closes behind an item that is no update, and behind the 100th update
pub closes-is : (items : List Item) (x : Item) (cut : ℕ) (pending : List Item) → Pends items cut pending → length pending < 100
    → closes_at_end (items ++ x ∷ []) ≡ (not (is_update x) || (length pending + 1 == 100))
closes-is items x cut pending h few =
    let s : ℕ = suffix_len is_update items in
    let t : ℕ = suffix_len is_update (items ++ x ∷ []) in
    let k : ℕ = length pending in
    let same : k ≡ s % 100 = pends-count items cut pending h in
    elim (is_update x) as (λ v. is_update x ≡ v → closes_at_end (items ++ x ∷ []) ≡ (not v || (k + 1 == 100))) [
      | false ↦ λ u. eq-eqb (t % 100) 0 (ap (λ n. n % 100) (suffix-no items x u))
      | true ↦ λ u. elim (k + 1 == 100) as (λ v. (k + 1 == 100) ≡ v → closes_at_end (items ++ x ∷ []) ≡ v) [
        | true ↦ λ e. eq-eqb (t % 100) 0 (hundredth s t k (suffix-yes items x u) same (eqb-true (k + 1) 100 e))
        | false ↦ λ e. ne_eqb (t % 100) 0 (between s t k (suffix-yes items x u) same few (eqb-not (k + 1) 100 e))
      ] refl
    ] refl

pub pends-stay : (items : List Item) (x : Item) (cut : ℕ) (pending : List Item) → Pends items cut pending → closes_at_end (items ++ x ∷ []) ≡ false → Pends (items ++ x ∷ []) cut (pending ++ x ∷ [])
pends-stay items x cut pending h e = record {
  at = h.at ∙ sym (last-stays items x e);
  later = ap (λ xs. xs ++ x ∷ []) (pends-drop items cut pending h) ∙ sym (drop-more items x) ∙ ap (λ c. drop c (items ++ x ∷ [])) (sym h.at);
}

pub pends-close : (items : List Item) (x : Item) (cut : ℕ) (pending : List Item) → Pends items cut pending → closes_at_end (items ++ x ∷ []) ≡ true → Pends (items ++ x ∷ []) (cut + (length pending + 1)) []
pends-close items x cut pending h e =
    let n : cut + (length pending + 1) ≡ length items + 1 = omega (arith, pends-sum items cut pending h) in
    record {
      at = n ∙ sym (last-closed items x e);
      later = sym (drop-end items x (cut + (length pending + 1)) n);
    }

pub batch-is : (items : List Item) (x : Item) (cut : ℕ) (pending : List Item) → Pends items cut pending → closes_at_end (items ++ x ∷ []) ≡ true
    → batches false (items ++ x ∷ []) ≡ batches false items ++ record { items = pending ++ x ∷ []; cut = cut + (length pending + 1) } ∷ []
batch-is items x cut pending h e =
    let n : length items + 1 ≡ cut + (length pending + 1) = omega (arith, pends-sum items cut pending h) in
    batches-close items x e
    ∙ ap (λ xs. batches false items ++ record { items = xs ++ x ∷ []; cut = length items + 1 } ∷ []) (sym (pends-drop items cut pending h))
    ∙ ap (λ k. batches false items ++ record { items = pending ++ x ∷ []; cut = k } ∷ []) n
