-- A longer feed has the batches of the shorter one, and perhaps more.
use Rattle.std.proofs.Common.{◌≡◌, ℕ, zero, suc, ◌+◌, ◌-◌, ◌≤◌, ◌^◌, ◌%◌, ◌==◌, Bool, true, false, cond, not, ◌&&◌, ◌||◌, List, [], ◌∷◌, ◌++◌, length, take, drop, refl, sym, ap, ◌∙◌, arith, append-nil, length-append, length-drop}
use Rattle.std.specs.Prelude.{Option, None, Some, is_some}
use Rattle.std.specs.List.{filter, filter_map, cons_option, take_while, prefix_len, range_with_len, slice_range, suffix_len}
use Rattle.std.proofs.lemmas.List.{take-append-le, drop-append-le}
use Rattle.std.proofs.lemmas.List.Elements.{filter-append}
use Rattle.ty_base.specs.declared.item.Item.{Item}
use Rattle.ty_base.specs.Feed.{is_update, is_closing, closings, last_of}
use Rattle.ty_base.proofs.Cuts.{range_split}
use Rattle.ty_intake.specs.declared.batch.Closed.{Closed}
use Rattle.ty_intake.specs.Lines.{Feed, onto_first, cut_lines, cut_of, is_too_much, last_line, lines_of}
use Rattle.ty_intake.specs.Faults.{feed_fault}
use Rattle.ty_intake.specs.Line.{item_by}
use Rattle.ty_intake.specs.Batches.{is_good, items_of, is_whole, batches_between, batches, batches_of}

-- lines

onto_more : (x : ℕ) (ls more : List (List ℕ)) (r s : List ℕ) → (rest : List (List ℕ)) × ((onto_first x (ls ++ more) s).lines ≡ (onto_first x ls r).lines ++ rest)
onto_more x [] more r s = (_, refl)
onto_more x (l ∷ ls) more r s = (more, refl)

cut_more : (xs ys : List ℕ) → (more : List (List ℕ)) × ((cut_lines (xs ++ ys)).lines ≡ (cut_lines xs).lines ++ more)
unfolding cut_lines
cut_more [] ys = ((cut_lines ys).lines, refl)
cut_more (x ∷ xs) ys =
    let m = cut_more xs ys in
    elim (x == 10) as (λ b. (more : List (List ℕ)) × ((cond b (record { lines = [] ∷ (cut_lines (xs ++ ys)).lines; rest = (cut_lines (xs ++ ys)).rest }) (onto_first x (cut_lines (xs ++ ys)).lines (cut_lines (xs ++ ys)).rest)).lines
    ≡ (cond b (record { lines = [] ∷ (cut_lines xs).lines; rest = (cut_lines xs).rest }) (onto_first x (cut_lines xs).lines (cut_lines xs).rest)).lines ++ more)) [
      | true ↦ (m.0, ap (λ ls. [] ∷ ls) m.1)
      | false ↦
          let o = onto_more x (cut_lines xs).lines m.0 (cut_lines xs).rest (cut_lines (xs ++ ys)).rest in
          (o.0, ap (λ ls. (onto_first x ls (cut_lines (xs ++ ys)).rest).lines) m.1 ∙ o.1)
    ]

last_none : (rest : List ℕ) → last_line false rest ≡ []
last_none [] = refl
last_none (x ∷ xs) = refl

take_parts : {X : Type 0} (n : ℕ) (xs ys : List X) → take n (xs ++ ys) ≡ take n xs ++ take (n - length xs) ys
take_parts zero xs ys = let none : 0 - length xs ≡ 0 = omega arith in ap (λ k. take k ys) (sym none)
take_parts (suc n) [] ys = let all : suc n - 0 ≡ suc n = omega arith in ap (λ k. take k ys) (sym all)
take_parts (suc n) (x ∷ xs) ys =
    let less : n - length xs ≡ suc n - length (x ∷ xs) = omega arith in
    ap (λ l. x ∷ l) (take_parts n xs ys) ∙ ap (λ k. x ∷ (take n xs ++ take k ys)) less

lines_open : (feed : Feed) → feed.ended ≡ false → lines_of feed ≡ (cut_of feed).lines
unfolding lines_of
lines_open feed e =
    ap (λ b. (cut_of feed).lines ++ last_line (b && not (is_too_much feed)) (cut_of feed).rest) e
    ∙ ap (λ l. (cut_of feed).lines ++ l) (last_none (cut_of feed).rest)
    ∙ append-nil (cut_of feed).lines

lines_more : (feed now : Feed) (piece : List ℕ) → feed.ended ≡ false → now.ended ≡ false → now.bytes ≡ feed.bytes ++ piece → (more : List (List ℕ)) × (lines_of now ≡ lines_of feed ++ more)
unfolding cut_of
lines_more feed now piece e f b =
    let n : ℕ = 2 ^ 40 - 1 in
    let m = cut_more (take n feed.bytes) (take (n - length feed.bytes) piece) in (
      m.0,
      lines_open now f
          ∙ ap (λ l. (cut_lines (take n l)).lines) b
          ∙ ap (λ l. (cut_lines l).lines) (take_parts n feed.bytes piece)
          ∙ m.1
          ∙ ap (λ l. l ++ m.0) (sym (lines_open feed e)),
    )

-- items

good_more : (ls more : List (List ℕ)) → (rest : List Item) × (filter_map item_by (take_while is_good (ls ++ more)) ≡ filter_map item_by (take_while is_good ls) ++ rest)
good_more [] more = (_, refl)
good_more (l ∷ ls) more =
    let m = good_more ls more in
    elim (is_good l) as (λ b. (rest : List Item) × (filter_map item_by (take (cond b (1 + prefix_len is_good (ls ++ more)) 0) (l ∷ (ls ++ more))) ≡ filter_map item_by (take (cond b (1 + prefix_len is_good ls) 0) (l ∷ ls)) ++ rest)) [
      | true ↦ (
        m.0,
        ap (λ k. filter_map item_by (take k (l ∷ (ls ++ more)))) (one_more (prefix_len is_good (ls ++ more)))
            ∙ ap (cons_option (item_by l)) m.1
            ∙ consed (item_by l) (filter_map item_by (take_while is_good ls)) m.0
            ∙ ap (λ k. filter_map item_by (take k (l ∷ ls)) ++ m.0) (sym (one_more (prefix_len is_good ls))),
      )
      | false ↦ ([], refl)
    ]
  where
    one_more : (n : ℕ) → 1 + n ≡ suc n
    one_more n = omega arith

    consed : (o : Option Item) (xs ys : List Item) → cons_option o (xs ++ ys) ≡ cons_option o xs ++ ys
    consed None xs ys = refl
    consed (Some x) xs ys = refl

items_more : (feed now : Feed) (piece : List ℕ) → feed.ended ≡ false → now.ended ≡ false → now.bytes ≡ feed.bytes ++ piece → (more : List Item) × (items_of now ≡ items_of feed ++ more)
unfolding items_of
items_more feed now piece e f b =
    let l = lines_more feed now piece e f b in
    let g = good_more (lines_of feed) l.0 in
    (g.0, ap (λ ls. filter_map item_by (take_while is_good ls)) l.1 ∙ g.1)

-- batches

batches_split : (items : List Item) (ps qs : List ℕ) (a : ℕ) → batches_between items a (ps ++ qs) ≡ batches_between items a ps ++ batches_between items (last_of a ps) qs
batches_split items [] qs a = refl
batches_split items (p ∷ ps) qs a = ap (λ l. record { items = slice_range items a p; cut = p } ∷ l) (batches_split items ps qs p)

module _ (items more : List Item) where
  same_closing : (p : ℕ) → p ≤ length items → is_closing false (items ++ more) p ≡ is_closing false items p
  same_closing p h = ap (λ xs. (suffix_len is_update xs % 100 == 0) || false) (take-append-le p items more h)

  same_range : (a p : ℕ) → a ≤ p → p ≤ length items → slice_range (items ++ more) a p ≡ slice_range items a p
  same_range a p h k =
      let less : p - a ≤ length (drop a items) = omega (arith, length-drop {A = Item}) in
      ap (take (p - a)) (drop-append-le a items more (omega arith)) ∙ take-append-le (p - a) (drop a items) more less

  same_batches : (k a q : ℕ) → a + k ≤ length items → q ≤ a
      → batches_between (items ++ more) q (filter (is_closing false (items ++ more)) (range_with_len (a + 1) k)) ≡ batches_between items q (filter (is_closing false items) (range_with_len (a + 1) k))
  same_batches zero a q h l = refl
  same_batches (suc k) a q h l =
      ap (λ b. batches_between (items ++ more) q (cond b ((a + 1) ∷ filter (is_closing false (items ++ more)) (range_with_len (a + 1 + 1) k)) (filter (is_closing false (items ++ more)) (range_with_len (a + 1 + 1) k)))) (same_closing (a + 1) (omega arith))
      ∙ elim (is_closing false items (a + 1)) as (λ b. batches_between (items ++ more) q (cond b ((a + 1) ∷ filter (is_closing false (items ++ more)) (range_with_len (a + 1 + 1) k)) (filter (is_closing false (items ++ more)) (range_with_len (a + 1 + 1) k)))
      ≡ batches_between items q (cond b ((a + 1) ∷ filter (is_closing false items) (range_with_len (a + 1 + 1) k)) (filter (is_closing false items) (range_with_len (a + 1 + 1) k)))) [
        | true ↦
            ap (λ xs. record { items = xs; cut = a + 1 } ∷ batches_between (items ++ more) (a + 1) (filter (is_closing false (items ++ more)) (range_with_len (a + 1 + 1) k))) (same_range q (a + 1) (omega arith) (omega arith))
            ∙ ap (λ l. record { items = slice_range items q (a + 1); cut = a + 1 } ∷ l) (same_batches k (a + 1) (a + 1) (omega arith) (omega arith))
        | false ↦ same_batches k (a + 1) q (omega arith) (omega arith)
      ]

  longer_batches : (rest : List Closed) × (batches false (items ++ more) ≡ batches false items ++ rest)
  unfolding batches closings
  longer_batches =
      let test : ℕ → Bool = is_closing false (items ++ more) in
      let n : ℕ = length items in
      let ps : List ℕ = filter test (range_with_len 1 n) in
      let qs : List ℕ = filter test (range_with_len (n + 1) (length more)) in (
        batches_between (items ++ more) (last_of 0 ps) qs,
        ap (λ k. batches_between (items ++ more) 0 (filter test (range_with_len 1 k))) (length-append items more)
            ∙ ap (λ l. batches_between (items ++ more) 0 (filter test l)) (range_split n 1 (length more) (n + 1) (omega arith))
            ∙ ap (batches_between (items ++ more) 0) (filter-append test (range_with_len 1 n) (range_with_len (n + 1) (length more)))
            ∙ batches_split (items ++ more) ps qs 0
            ∙ ap (λ l. l ++ batches_between (items ++ more) (last_of 0 ps) qs) (same_batches n 0 0 (omega arith) (omega arith)),
      )

pub batches_grow : (feed now : Feed) (piece : List ℕ) → feed.ended ≡ false → now.ended ≡ false → now.bytes ≡ feed.bytes ++ piece → (more : List Closed) × (batches_of now ≡ batches_of feed ++ more)
unfolding batches_of
batches_grow feed now piece e f b =
    let i = items_more feed now piece e f b in
    let l = longer_batches (items_of feed) i.0 in (
      l.0,
      ap (λ w. batches w (items_of now)) (open_is now f)
          ∙ ap (batches false) i.1
          ∙ l.1
          ∙ ap (λ w. batches w (items_of feed) ++ l.0) (sym (open_is feed e)),
    )
  where
    open_is : (x : Feed) → x.ended ≡ false → is_whole x ≡ false
    open_is x h = ap (λ v. v && not (is_some (feed_fault x))) h
