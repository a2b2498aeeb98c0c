-- The book behind one more batch.
use Rattle.std.proofs.Common.{◌≡◌, ℕ, zero, suc, ◌+◌, ◌-◌, ◌<◌, ◌≤◌, Bool, true, false, cond, List, [], ◌∷◌, ◌++◌, length, take, map, refl, sym, ap, subst, ◌∙◌, arith, add-one, get_or, append-nil, length-append, inl, inr, lt-ltb, le-ltb, ne_eqb, eq-or-lt_of_le, ◌==◌, ◌%◌, ◌&&◌, ◌||◌}
use Rattle.std.specs.Bool.{nat_lt}
use Rattle.std.specs.List.{filter, filter_map, range_with_len, fold, slice_range, suffix_len}
use Rattle.std.proofs.lemmas.List.Elements.{filter-append}
use Rattle.std.proofs.lemmas.List.Sums.{fold-append}
use Rattle.std.proofs.lemmas.List.FromFn.{map-range_with_len_more}
use Rattle.std.proofs.lemmas.List.{take-append-le, take_all}
use Rattle.ty_base.specs.declared.item.Item.{Item}
use Rattle.ty_base.specs.Feed.{World, start, after, folded, is_update, is_closing, closings, cuts_after, cuts, cut, last, world, world_at, same_world, last_of, closing_before, key_of, firsts, changes, deltas, entry, book}
use Rattle.ty_base.specs.declared.limits.TheConstants.{BATCH_UPDATES}
use Rattle.ty_base.specs.Readings.{AllNext}
use Rattle.std.proofs.Math.Seq.{drop-append_seam, get_or-append_seam}
use Rattle.ty_base.proofs.Cuts.{passed, passed_more, range_split}
use Rattle.ty_base.proofs.More.{world_more, cut_more, same_world_more, deltas_more}
use Rattle.ty_base.proofs.Reading.{cuts_are}
use Rattle.ty_base.specs.Batches.{IsClosed, IsNextBatch}
use Rattle.ty_crumb.specs.Batches.{entry_of, next_entries}

-- Cuts among more positions

cuts_split : (items : List Item) (ps qs : List ℕ) (c : ℕ) → cuts_after items c (ps ++ qs) ≡ cuts_after items c ps ++ cuts_after items (last_of c (cuts_after items c ps)) qs
unfolding cuts_after
cuts_split items [] qs c = refl
cuts_split items (p ∷ ps) qs c =
    elim (same_world (world_at items c) (world_at items p)) as (λ b. cond b (cuts_after items c (ps ++ qs)) (p ∷ cuts_after items p (ps ++ qs))
    ≡ cond b (cuts_after items c ps) (p ∷ cuts_after items p ps) ++ cuts_after items (last_of c (cond b (cuts_after items c ps) (p ∷ cuts_after items p ps))) qs) [
      | true ↦ cuts_split items ps qs c
      | false ↦ ap (λ xs. p ∷ xs) (cuts_split items ps qs p)
    ]

-- among positions that are within the shorter list
Within : ℕ → List ℕ → Type 0
Within n [] = Unit {0}
Within n (p ∷ ps) = (p ≤ n) × Within n ps

within_filter : (test : ℕ → Bool) (k a n : ℕ) → a + k ≤ n + 1 → Within n (filter test (range_with_len a k))
unfolding Within
within_filter test zero a n h = tt
within_filter test (suc k) a n h =
    elim (test a) as (λ b. Within n (cond b (a ∷ filter test (range_with_len (a + 1) k)) (filter test (range_with_len (a + 1) k)))) [
      | true ↦ (omega arith, within_filter test k (a + 1) n (omega arith))
      | false ↦ within_filter test k (a + 1) n (omega arith)
    ]

cuts_same : (items more : List Item) (ps : List ℕ) (c : ℕ) → c ≤ length items → Within (length items) ps → cuts_after (items ++ more) c ps ≡ cuts_after items c ps
unfolding cuts_after Within
cuts_same items more [] c h w = refl
cuts_same items more (p ∷ ps) c h w =
    let one : world_at (items ++ more) c ≡ world_at items c = world_more false items more c h in
    let two : world_at (items ++ more) p ≡ world_at items p = world_more false items more p w.0 in
    rw (one, two) (
    ap (λ xs. cond (same_world (world_at items c) (world_at items p)) xs (p ∷ cuts_after (items ++ more) p ps)) (cuts_same items more ps c h w.1)
    ∙ ap (λ xs. cond (same_world (world_at items c) (world_at items p)) (cuts_after items c ps) (p ∷ xs)) (cuts_same items more ps p w.0 w.1))

cuts_within : (items : List Item) (n : ℕ) (ps : List ℕ) (c : ℕ) → c ≤ n → Within n ps → last_of c (cuts_after items c ps) ≤ n
unfolding cuts_after Within
cuts_within items n [] c h w = h
cuts_within items n (p ∷ ps) c h w =
    elim (same_world (world_at items c) (world_at items p)) as (λ b. last_of c (cond b (cuts_after items c ps) (p ∷ cuts_after items p ps)) ≤ n) [
      | true ↦ cuts_within items n ps c h w.1
      | false ↦ cuts_within items n ps p w.0 w.1
    ]

-- Filters of positions

filter_none : (test : ℕ → Bool) (k a : ℕ) → ((p : ℕ) → a ≤ p → p < a + k → test p ≡ false) → filter test (range_with_len a k) ≡ []
filter_none test zero a h = refl
filter_none test (suc k) a h =
    ap (λ b. cond b (a ∷ filter test (range_with_len (a + 1) k)) (filter test (range_with_len (a + 1) k))) (h a (omega arith) (omega arith))
    ∙ filter_none test k (a + 1) (λ p l m. h p (omega arith) (omega arith))

filter_same : (t u : ℕ → Bool) (k a : ℕ) → ((p : ℕ) → a ≤ p → p < a + k → t p ≡ u p) → filter t (range_with_len a k) ≡ filter u (range_with_len a k)
filter_same t u zero a h = refl
filter_same t u (suc k) a h =
    ap (λ b. cond b (a ∷ filter t (range_with_len (a + 1) k)) (filter t (range_with_len (a + 1) k))) (h a (omega arith) (omega arith))
    ∙ ap (λ xs. cond (u a) (a ∷ xs) xs) (filter_same t u k (a + 1) (λ p l m. h p (omega arith) (omega arith)))

filter_last : (test : ℕ → Bool) (k a p : ℕ) → a + k ≡ p → test p ≡ true → ((q : ℕ) → a ≤ q → q < p → test q ≡ false) → filter test (range_with_len a (k + 1)) ≡ p ∷ []
filter_last test k a p e t h =
    ap (filter test) (range_split k a 1 p e)
    ∙ filter-append test (range_with_len a k) (range_with_len p 1)
    ∙ ap (λ xs. xs ++ filter test (range_with_len p 1)) (filter_none test k a (λ q l m. h q l (omega arith)))
    ∙ ap (λ b. cond b (p ∷ []) []) t

last_of_more : (xs : List ℕ) (d x : ℕ) → last_of d (xs ++ x ∷ []) ≡ x
last_of_more [] d x = refl
last_of_more (y ∷ ys) d x = last_of_more ys y x

pub last_is_at : (cs : List ℕ) (d : ℕ) → get_or (d ∷ cs) (length cs) 0 ≡ last_of d cs
last_is_at [] d = refl
last_is_at (c ∷ cs) d = last_is_at cs c

no_end : (a e : Bool) → a || (e && false) ≡ a || false
no_end a true = refl
no_end a false = refl

-- the last position that passes is the end, where that passes
closed_at : (test : ℕ → Bool) (n : ℕ) → test n ≡ true → last_of 0 (filter test (range_with_len 1 n)) ≡ n
closed_at test zero t = refl
closed_at test (suc j) t =
    let P : ℕ → Type 0 = λ k. test k ≡ true → last_of 0 (filter test (range_with_len 1 k)) ≡ k in
    subst P (add-one j) (λ u. passed_more test j ∙ ap (λ b. cond b (j + 1) (passed test j)) u) t

closed_end : (items : List Item) → IsClosed items → last_of 0 (closings false items) ≡ length items
unfolding closings
closed_end items (inl e) = let P : List Item → Type 0 = λ b. last_of 0 (closings false b) ≡ length b in subst P (sym e) refl
closed_end items (inr t) = closed_at (is_closing false items) (length items) t

next_end : (items : List Item) (ps : List ℕ) (c q : ℕ) → AllNext false items c ps → last_of c ps ≤ q → q ≤ length items → is_closing false items q ≡ true → world_at items (last_of c ps) ≡ world_at items q
next_end items [] c q h l m t = elim (eq-or-lt_of_le l) [ inl e ↦ ap (world_at items) e | inr r ↦ h q r m t ]
next_end items (p ∷ ps) c q h l m t = next_end items ps p q h.1 l m t

pub settled_end : (items : List Item) → IsClosed items → world_at items (last_of 0 (cuts false items)) ≡ folded items
unfolding cuts closings cuts_after
settled_end items (inl e) = let P : List Item → Type 0 = λ b. world_at b (last_of 0 (cuts false b)) ≡ folded b in subst P (sym e) refl
settled_end items (inr t) =
    let n : ℕ = length items in
    let within : last_of 0 (cuts false items) ≤ n = cuts_within items n (closings false items) 0 (omega arith) (within_filter (is_closing false items) n 1 n (omega arith)) in
    next_end items (cuts false items) 0 n (cuts_are false items) within (omega arith) t ∙ ap folded (take_all n items (omega arith))

filter_below : (n c : ℕ) (ps : List ℕ) → n < c → Within n ps → filter (λ p. nat_lt p c) ps ≡ ps
unfolding Within
filter_below n c [] h w = refl
filter_below n c (p ∷ ps) h w =
    ap (λ b. cond b (p ∷ filter (λ q. nat_lt q c) ps) (filter (λ q. nat_lt q c) ps)) (lt-ltb p c (omega (arith, w.0))) ∙ ap (λ xs. p ∷ xs) (filter_below n c ps h w.1)

map_same : {X : Type 0} (f g : ℕ → X) (k a : ℕ) → ((n : ℕ) → a ≤ n → n < a + k → f n ≡ g n) → map f (range_with_len a k) ≡ map g (range_with_len a k)
map_same f g zero a h = refl
map_same f g (suc k) a h =
    ap (λ x. x ∷ map f (range_with_len (a + 1) k)) (h a (omega arith) (omega arith))
    ∙ ap (λ xs. g a ∷ xs) (map_same f g k (a + 1) (λ n l m. h n (omega arith) (omega arith)))

module _ (ended : Bool) (before batch : List Item) (closed : IsClosed before) (next : IsNextBatch ended before batch) where
  abbrev all : List Item
  all = before ++ batch

  abbrev here : ℕ
  here = length before

  abbrev there : ℕ
  there = length before + length batch

  -- Closings

  ends_at : length all ≡ there
  ends_at = length-append before batch

  -- below the end it doesn't matter whether the feed has ended
  below_end : (p : ℕ) → p < there → is_closing ended all p ≡ is_closing false all p
  below_end p h =
      ap (λ e. (suffix_len is_update (take p all) % BATCH_UPDATES == 0) || (ended && e)) (ne_eqb p (length all) (λ e. omega (arith, ends_at)))
      ∙ no_end (suffix_len is_update (take p all) % BATCH_UPDATES == 0) ended

  in_front : (p : ℕ) → p ≤ here → is_closing ended all p ≡ is_closing false before p
  in_front p h =
      below_end p (omega (arith, next.some))
      ∙ ap (λ xs. (suffix_len is_update xs % BATCH_UPDATES == 0) || false) (take-append-le p before batch h)

  closings_grow : closings ended all ≡ closings false before ++ there ∷ []
  unfolding closings
  closings_grow =
      let test : ℕ → Bool = is_closing ended all in
      let k : ℕ = length batch - 1 in
      let some : 0 < length batch = next.some in
      let e : length all ≡ here + (k + 1) = omega (arith, ends_at) in
      ap (λ n. filter test (range_with_len 1 n)) e
      ∙ ap (filter test) (range_split here 1 (k + 1) (here + 1) (omega arith))
      ∙ filter-append test (range_with_len 1 here) (range_with_len (here + 1) (k + 1))
      ∙ ap (λ xs. xs ++ filter test (range_with_len (here + 1) (k + 1))) (filter_same test (is_closing false before) here 1 (λ p l m. in_front p (omega arith)))
      ∙ ap (λ xs. filter (is_closing false before) (range_with_len 1 here) ++ xs) (filter_last test k (here + 1) there (omega arith) next.closes (λ q l m. below_end q m ∙ next.none_before q (omega arith) m))

  closings_within : Within here (closings false before)
  unfolding closings
  closings_within = within_filter (is_closing false before) here 1 here (omega arith)

  last_closing : last_of 0 (closings false before) ≡ here
  last_closing = closed_end before closed

  -- Cuts

  abbrev cut_before : ℕ
  cut_before = last_of 0 (cuts false before)

  settled : world_at before cut_before ≡ folded before
  settled = settled_end before closed

  world_there : world_at all there ≡ fold after (folded before) batch
  world_there = ap folded (take_all there all (omega (arith, ends_at))) ∙ fold-append after start before batch

  cuts_grow : cuts ended all ≡ cuts false before ++ cond (same_world (folded before) (fold after (folded before) batch)) [] (there ∷ [])
  unfolding cuts cuts_after
  cuts_grow =
      let w : World = fold after (folded before) batch in
      let within : cut_before ≤ here = cuts_within before here (closings false before) 0 (omega arith) closings_within in
      let c_is : world_at all cut_before ≡ folded before = world_more ended before batch cut_before within ∙ settled in
      ap (cuts_after all 0) closings_grow
      ∙ cuts_split all (closings false before) (there ∷ []) 0
      ∙ ap (λ xs. xs ++ cuts_after all (last_of 0 xs) (there ∷ [])) (cuts_same before batch (closings false before) 0 (omega arith) closings_within)
      ∙ ap (λ x. cuts false before ++ cond (same_world x (world_at all there)) [] (there ∷ [])) c_is
      ∙ ap (λ x. cuts false before ++ cond (same_world (folded before) x) [] (there ∷ [])) world_there

  -- The book

  abbrev count : ℕ
  count = last false before

  abbrev old : World
  old = folded before

  abbrev new : World
  new = fold after old batch

  entry_same : (n : ℕ) → n ≤ count → entry ended all n ≡ entry false before n
  entry_same n h =
      let c : cut ended all n ≡ cut false before n = cut_more ended before batch n h in
      let w : world ended all n ≡ world false before n = same_world_more ended before batch n h in
      let d : deltas ended all n ≡ deltas false before n = deltas_more ended before batch n h in
      λ i. record { cut = c i; status = (w i).status; deltas = d i }

  front_same : map (entry ended all) (range_with_len 1 count) ≡ book false before
  unfolding book
  front_same = map_same (entry ended all) (entry false before) count 1 (λ n l m. entry_same n (omega arith))

  world_here : world ended all count ≡ old
  world_here =
      let le : count ≤ count = omega arith in
      same_world_more ended before batch count le ∙ ap (world_at before) (last_is_at (cuts false before) 0) ∙ settled

  closing_here : closing_before ended all there ≡ here
  closing_here =
      let less : here < there = omega (arith, next.some) in
      let test : ℕ → Bool = λ p. nat_lt p there in
      ap (λ ps. last_of 0 (filter test ps)) closings_grow
      ∙ ap (last_of 0) (filter-append test (closings false before) (there ∷ []))
      ∙ ap (λ xs. last_of 0 (xs ++ filter test (there ∷ []))) (filter_below here there (closings false before) less closings_within)
      ∙ ap (λ b. last_of 0 (closings false before ++ cond b (there ∷ []) [])) (le-ltb there there (omega arith))
      ∙ ap (last_of 0) (append-nil (closings false before))
      ∙ last_closing

  batch_here : slice_range all here there ≡ batch
  batch_here =
      ap (take (there - here)) (drop-append_seam before batch) ∙ take_all (there - here) batch (omega arith)

  module _ (changed : cuts ended all ≡ cuts false before ++ there ∷ []) where
    last_cut : cut ended all (count + 1) ≡ there
    last_cut =
        ap (λ cs. get_or (0 ∷ cs) (count + 1) 0) changed
        ∙ ap (λ k. get_or ((0 ∷ cuts false before) ++ there ∷ []) k 0) (add-one count)
        ∙ get_or-append_seam (0 ∷ cuts false before) there [] 0

    world_last : world ended all (count + 1) ≡ new
    world_last = ap (world_at all) last_cut ∙ world_there

    deltas_last : deltas ended all (count + 1) ≡ changes old.pairs new.pairs (firsts (filter_map key_of batch))
    unfolding deltas
    deltas_last =
        let one_less : count + 1 - 1 ≡ count = omega arith in
        ap (λ to. changes (world ended all (count + 1 - 1)).pairs (world ended all (count + 1)).pairs (firsts (filter_map key_of (slice_range all (closing_before ended all to) to)))) last_cut
        ∙ ap (λ w. changes (world ended all (count + 1 - 1)).pairs w.pairs (firsts (filter_map key_of (slice_range all (closing_before ended all there) there)))) world_last
        ∙ ap (λ w. changes w.pairs new.pairs (firsts (filter_map key_of (slice_range all (closing_before ended all there) there)))) (ap (world ended all) one_less ∙ world_here)
        ∙ ap (λ b. changes old.pairs new.pairs (firsts (filter_map key_of (slice_range all b there)))) closing_here
        ∙ ap (λ xs. changes old.pairs new.pairs (firsts (filter_map key_of xs))) batch_here

    entry_last : entry ended all (count + 1) ≡ entry_of there old new batch
    entry_last = λ i. record { cut = last_cut i; status = (world_last i).status; deltas = deltas_last i }

  book_grows : book ended all ≡ book false before ++ next_entries there old batch
  unfolding book
  book_grows =
      elim (same_world old new) as (λ b. cuts ended all ≡ cuts false before ++ cond b [] (there ∷ []) → book ended all ≡ book false before ++ cond b [] (entry_of there old new batch ∷ [])) [
        | true ↦ λ e.
            ap (λ n. map (entry ended all) (range_with_len 1 n)) (ap length (e ∙ append-nil (cuts false before)))
            ∙ front_same
            ∙ sym (append-nil (book false before))
        | false ↦ λ e.
            ap (λ n. map (entry ended all) (range_with_len 1 n)) (ap length e ∙ length-append (cuts false before) (there ∷ []))
            ∙ map-range_with_len_more (entry ended all) 1 count (count + 1) (omega arith)
            ∙ ap (λ xs. xs ++ entry ended all (count + 1) ∷ []) front_same
            ∙ ap (λ x. book false before ++ x ∷ []) (entry_last e)
      ] cuts_grow

pub the_book_grows : (ended : Bool) (before batch : List Item) → IsClosed before → IsNextBatch ended before batch
    → book ended (before ++ batch) ≡ book false before ++ next_entries (length before + length batch) (folded before) batch
the_book_grows ended before batch closed next = book_grows ended before batch closed next
