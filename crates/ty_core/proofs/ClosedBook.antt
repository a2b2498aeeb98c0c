-- The book of a list of items is that of its items up to the last closing.
use Rattle.std.proofs.Common.{◌≡◌, ℕ, zero, suc, ◌+◌, ◌-◌, ◌<◌, ◌≤◌, ◌%◌, ◌==◌, ◌⊎◌, Bool, true, false, cond, ◌&&◌, ◌||◌, List, [], ◌∷◌, ◌++◌, length, take, drop, map, refl, sym, ap, subst, ◌∙◌, inl, inr, arith, add-one, true≢false, append-nil, eqb-true, take-append-drop}
use Rattle.std.specs.Prelude.{slice_index, nat_lt, is_some, not, None}
use Rattle.std.specs.List.{filter, filter_map, range_with_len, slice_range, suffix_len}
use Rattle.std.proofs.lemmas.List.{length-take-le, take-take}
use Rattle.std.proofs.lemmas.List.Elements.{filter-append}
use Rattle.ty_base.specs.declared.item.Item.{Item}
use Rattle.ty_base.specs.declared.entry.Entry.{Entry}
use Rattle.ty_base.specs.Feed.{World, is_update, is_closing, closings, cuts_after, cuts, cut, last, world_at, world, same_world, last_of, key_of, firsts, changes, deltas, entry, book}
use Rattle.ty_base.proofs.Cuts.{range_split}
use Rattle.ty_base.proofs.More.{world_more, cut_more, same_world_more, deltas_more}
use Rattle.ty_base.specs.Batches.{IsClosed}
use Rattle.ty_intake.specs.Lines.{Feed}
use Rattle.ty_intake.specs.Faults.{feed_fault}
use Rattle.ty_intake.specs.Batches.{items_of, is_whole, closed_items}

-- A list of items that ends at a closing has the same book whether the feed has ended or not

filter_same : (t u : ℕ → Bool) (k a : ℕ) → ((p : ℕ) → a ≤ p → p < a + k → t p ≡ u p) → filter t (range_with_len a k) ≡ filter u (range_with_len a k)
filter_same t u zero a h = refl
filter_same t u (suc k) a h =
    ap (λ b. cond b (a ∷ filter t (range_with_len (a + 1) k)) (filter t (range_with_len (a + 1) k))) (h a (omega arith) (omega arith))
    ∙ ap (λ xs. cond (u a) (a ∷ xs) xs) (filter_same t u k (a + 1) (λ p l m. h p (omega arith) (omega arith)))

at_end : (a : Bool) → a || false ≡ true → a || true ≡ a || false
at_end true h = refl
at_end false h = absurd (true≢false (sym h))

closings_same : (items : List Item) → IsClosed items → closings true items ≡ closings false items
unfolding closings
closings_same items (inl e) = let P : List Item → Type 0 = λ xs. closings true xs ≡ closings false xs in subst P (sym e) refl
closings_same items (inr t) =
    filter_same (is_closing true items) (is_closing false items) (length items) 1
    (λ p l m. elim (p == length items) as (λ v. (p == length items) ≡ v → (suffix_len is_update (take p items) % 100 == 0) || (true && v) ≡ (suffix_len is_update (take p items) % 100 == 0) || false) [
      | true ↦ λ e.
          let same : p ≡ length items = eqb-true p (length items) e in
          at_end (suffix_len is_update (take p items) % 100 == 0) (ap (λ n. (suffix_len is_update (take n items) % 100 == 0) || false) same ∙ t)
      | false ↦ λ e. refl
    ] refl)

pub book_same : (items : List Item) → IsClosed items → book true items ≡ book false items
unfolding book deltas cuts
book_same items c =
    let F : List ℕ → List Entry = λ ps. map (λ n. record {
      cut = slice_index (0 ∷ cuts_after items 0 ps) n;
      status = (world_at items (slice_index (0 ∷ cuts_after items 0 ps) n)).status;
      deltas = changes (world_at items (slice_index (0 ∷ cuts_after items 0 ps) (n - 1))).pairs (world_at items (slice_index (0 ∷ cuts_after items 0 ps) n)).pairs
          (firsts (filter_map key_of (slice_range items (last_of 0 (filter (λ p. nat_lt p (slice_index (0 ∷ cuts_after items 0 ps) n)) ps)) (slice_index (0 ∷ cuts_after items 0 ps) n))));
    }) (range_with_len 1 (length (cuts_after items 0 ps))) in
    ap F (closings_same items c)

-- Behind the last closing there is none

-- the last position that passes, and those up to it
record IsLast (test : ℕ → Bool) (n l : ℕ) : Type 0 where
  within : l ≤ n
  passes : (l ≡ 0) ⊎ (test l ≡ true)
  front : filter test (range_with_len 1 n) ≡ filter test (range_with_len 1 l)

last_push : (xs : List ℕ) (d x : ℕ) → last_of d (xs ++ x ∷ []) ≡ x
last_push [] d x = refl
last_push (y ∷ ys) d x = last_push ys y x

last_is : (test : ℕ → Bool) (n : ℕ) → IsLast test n (last_of 0 (filter test (range_with_len 1 n)))
last_is test zero = record { within = omega arith; passes = inl refl; front = refl }
last_is test (suc n) =
    let P : ℕ → Type 0 = λ k. IsLast test k (last_of 0 (filter test (range_with_len 1 k))) in
    let one : filter test (range_with_len 1 (n + 1)) ≡ filter test (range_with_len 1 n) ++ cond (test (n + 1)) ((n + 1) ∷ []) [] =
    ap (filter test) (range_split n 1 1 (n + 1) (omega arith)) ∙ filter-append test (range_with_len 1 n) (range_with_len (n + 1) 1) in
    let before : IsLast test n (last_of 0 (filter test (range_with_len 1 n))) = last_is test n in
    subst P (add-one n) (
    elim (test (n + 1)) as (λ v. test (n + 1) ≡ v → IsLast test (n + 1) (last_of 0 (filter test (range_with_len 1 (n + 1))))) [
      | true ↦ λ t.
          let here : last_of 0 (filter test (range_with_len 1 (n + 1))) ≡ n + 1 =
          ap (last_of 0) one ∙ ap (λ b. last_of 0 (filter test (range_with_len 1 n) ++ cond b ((n + 1) ∷ []) [])) t ∙ last_push (filter test (range_with_len 1 n)) 0 (n + 1) in
          let Q : ℕ → Type 0 = IsLast test (n + 1) in
          subst Q (sym here) (record { within = omega arith; passes = inr t; front = refl })
      | false ↦ λ t.
          let same : filter test (range_with_len 1 (n + 1)) ≡ filter test (range_with_len 1 n) =
          one ∙ ap (λ b. filter test (range_with_len 1 n) ++ cond b ((n + 1) ∷ []) []) t ∙ append-nil (filter test (range_with_len 1 n)) in
          let Q : ℕ → Type 0 = IsLast test (n + 1) in
          subst Q (sym (ap (last_of 0) same)) (record { within = omega (arith, before.within); passes = before.passes; front = same ∙ before.front })
    ] refl)

module _ (items : List Item) where
  abbrev here : ℕ
  here = last_of 0 (closings false items)

  abbrev front : List Item
  front = take here items

  abbrev rest : List Item
  rest = drop here items

  is_last : IsLast (is_closing false items) (length items) here
  unfolding closings
  is_last = last_is (is_closing false items) (length items)

  whole : front ++ rest ≡ items
  whole = take-append-drop here items

  len : length front ≡ here
  len = length-take-le here items is_last.within

  same_test : (p : ℕ) → p ≤ here → is_closing false items p ≡ is_closing false front p
  same_test p h = ap (λ xs. (suffix_len is_update xs % 100 == 0) || false) (sym (take-take p here items h))

  pub front_closed : IsClosed front
  front_closed = elim is_last.passes [
    | inl e ↦ inl (ap (λ n. take n items) e)
    | inr t ↦ inr (ap (is_closing false front) len ∙ sym (same_test here (omega arith)) ∙ t)
  ]

  front_closings : closings false items ≡ closings false front
  unfolding closings
  front_closings =
      is_last.front
      ∙ filter_same (is_closing false items) (is_closing false front) here 1 (λ p l m. same_test p (omega arith))
      ∙ ap (λ n. filter (is_closing false front) (range_with_len 1 n)) (sym len)

  Below : ℕ → List ℕ → Type 0
  Below n [] = Unit {0}
  Below n (p ∷ ps) = (p ≤ n) × Below n ps

  below_filter : (test : ℕ → Bool) (k a n : ℕ) → a + k ≤ n + 1 → Below n (filter test (range_with_len a k))
  unfolding Below
  below_filter test zero a n h = tt
  below_filter test (suc k) a n h =
      elim (test a) as (λ b. Below n (cond b (a ∷ filter test (range_with_len (a + 1) k)) (filter test (range_with_len (a + 1) k)))) [
        | true ↦ (omega arith, below_filter test k (a + 1) n (omega arith))
        | false ↦ below_filter test k (a + 1) n (omega arith)
      ]

  world_same : (p : ℕ) → p ≤ here → world_at items p ≡ world_at front p
  world_same p h = ap (λ xs. world_at xs p) (sym whole) ∙ world_more false front rest p (omega (arith, len, h))

  cuts_same : (ps : List ℕ) (c : ℕ) → c ≤ here → Below here ps → cuts_after items c ps ≡ cuts_after front c ps
  unfolding cuts_after Below
  cuts_same [] c h w = refl
  cuts_same (p ∷ ps) c h w =
      ap (λ (v : World). cond (same_world v (world_at items p)) (cuts_after items c ps) (p ∷ cuts_after items p ps)) (world_same c h)
      ∙ ap (λ (v : World). cond (same_world (world_at front c) v) (cuts_after items c ps) (p ∷ cuts_after items p ps)) (world_same p w.0)
      ∙ ap (λ xs. cond (same_world (world_at front c) (world_at front p)) xs (p ∷ cuts_after items p ps)) (cuts_same ps c h w.1)
      ∙ ap (λ xs. cond (same_world (world_at front c) (world_at front p)) (cuts_after front c ps) (p ∷ xs)) (cuts_same ps p w.0 w.1)

  front_cuts : cuts false items ≡ cuts false front
  unfolding cuts closings
  front_cuts =
      ap (cuts_after items 0) front_closings
      ∙ cuts_same (closings false front) 0 (omega arith) (below_filter (is_closing false front) (length front) 1 here (omega (arith, len)))

  map_same : {X : Type 0} (f g : ℕ → X) (k a : ℕ) → ((n : ℕ) → a ≤ n → n < a + k → f n ≡ g n) → map f (range_with_len a k) ≡ map g (range_with_len a k)
  map_same f g zero a h = refl
  map_same f g (suc k) a h =
      ap (λ x. x ∷ map f (range_with_len (a + 1) k)) (h a (omega arith) (omega arith))
      ∙ ap (λ xs. g a ∷ xs) (map_same f g k (a + 1) (λ n l m. h n (omega arith) (omega arith)))

  entry_same : (n : ℕ) → n ≤ last false front → entry false (front ++ rest) n ≡ entry false front n
  entry_same n h =
      let c : cut false (front ++ rest) n ≡ cut false front n = cut_more false front rest n h in
      let w : world false (front ++ rest) n ≡ world false front n = same_world_more false front rest n h in
      let d : deltas false (front ++ rest) n ≡ deltas false front n = deltas_more false front rest n h in
      λ i. record { cut = c i; status = (w i).status; deltas = d i }

  pub open_book : book false items ≡ book true front
  unfolding book
  open_book =
      ap (λ xs. map (entry false xs) (range_with_len 1 (length (cuts false items)))) (sym whole)
      ∙ ap (λ ps. map (entry false (front ++ rest)) (range_with_len 1 (length ps))) front_cuts
      ∙ map_same (entry false (front ++ rest)) (entry false front) (last false front) 1 (λ n l m. entry_same n (omega arith))
      ∙ sym (book_same front front_closed)

-- of a feed without a fault
pub book_closed : (feed : Feed) → feed_fault feed ≡ None → (is_whole feed ≡ true → closed_items feed ≡ items_of feed) → book feed.ended (items_of feed) ≡ book true (closed_items feed)
unfolding closed_items
book_closed feed none all =
    let whole_is : is_whole feed ≡ feed.ended = ap (λ f. feed.ended && not (is_some f)) none ∙ yes feed.ended in
    elim feed.ended as (λ e. feed.ended ≡ e → book e (items_of feed) ≡ book true (take (last_of 0 (closings (is_whole feed) (items_of feed))) (items_of feed))) [
      | true ↦ λ e. ap (book true) (sym (all (whole_is ∙ e)))
      | false ↦ λ e. open_book (items_of feed) ∙ ap (λ b. book true (take (last_of 0 (closings b (items_of feed))) (items_of feed))) (sym (whole_is ∙ e))
    ] refl
  where
    yes : (b : Bool) → (b && true) ≡ b
    yes true = refl
    yes false = refl
