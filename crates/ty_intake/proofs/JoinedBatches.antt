-- The batches of a list of items, joined.
use Rattle.std.proofs.Common.{◌≡◌, ℕ, zero, suc, ◌+◌, ◌-◌, ◌<◌, ◌≤◌, ◌^◌, Bool, true, false, cond, not, ◌&&◌, ◌||◌, ◌==◌, ◌%◌, List, [], ◌∷◌, ◌++◌, length, take, drop, refl, sym, ap, subst, ◌∙◌, arith, add-one, take-add, drop-drop, take_all, eq-eqb, length-append, length-take}
use Rattle.std.specs.Prelude.{None, Some}
use Rattle.std.specs.List.{filter, filter_map, cons_option, flat_map, take_while, prefix_len, range_with_len, slice_range, suffix_len}
use Rattle.ty_base.specs.declared.item.Item.{Item}
use Rattle.ty_base.specs.Feed.{is_update, is_closing, closings, last_of}
use Rattle.ty_base.proofs.Cuts.{passed, passed_more}
use Rattle.ty_intake.specs.Lines.{Feed, Cut, cut_lines, cut_of, is_too_much, last_line, lines_of}
use Rattle.ty_intake.specs.Line.{item_by}
use Rattle.ty_intake.specs.Batches.{is_good, items_of, is_whole, batches_between, batches, batches_of, closed_items}
use Rattle.ty_intake.proofs.Lines.{cut-length}

-- positions that rise, from one on, to n at most
abbrev pub Rises : ℕ → ℕ → List ℕ → Type 0
Rises n from [] = from ≤ n
Rises n from (p ∷ ps) = (from ≤ p) × Rises n p ps

pub rises-filter : (test : ℕ → Bool) (k a from n : ℕ) → from ≤ a → from ≤ n → a + k ≤ n + 1 → Rises n from (filter test (range_with_len a k))
rises-filter test zero a from n h l m = l
rises-filter test (suc k) a from n h l m =
    elim (test a) as (λ v. Rises n from (cond v (a ∷ filter test (range_with_len (a + 1) k)) (filter test (range_with_len (a + 1) k)))) [
      | true ↦ (h, rises-filter test k (a + 1) a n (omega arith) (omega arith) (omega arith))
      | false ↦ rises-filter test k (a + 1) from n (omega arith) l (omega arith)
    ]

pub closings-rise : (ended : Bool) (items : List Item) → Rises (length items) 0 (closings ended items)
unfolding closings
closings-rise ended items = rises-filter (is_closing ended items) (length items) 1 0 (length items) (omega arith) (omega arith) (omega arith)

pub last-between : (n : ℕ) (ps : List ℕ) (from : ℕ) → Rises n from ps → (from ≤ last_of from ps) × (last_of from ps ≤ n)
last-between n [] from h = (omega arith, h)
last-between n (p ∷ ps) from h =
    let l : (p ≤ last_of p ps) × (last_of p ps ≤ n) = last-between n ps p h.1 in
    (omega (arith, h.0, l.0), l.1)

-- ranges, one after another

slice-none : (items : List Item) (a : ℕ) → slice_range items a a ≡ []
slice-none items a = let e : a - a ≡ 0 = omega arith in ap (λ k. take k (drop a items)) e

slice-join : (items : List Item) (a b c : ℕ) → a ≤ b → b ≤ c → slice_range items a b ++ slice_range items b c ≡ slice_range items a c
slice-join items a b c h k =
    let e : c - a ≡ (b - a) + (c - b) = omega arith in
    let f : a + (b - a) ≡ b = omega arith in
    sym (
    ap (λ n. take n (drop a items)) e
    ∙ take-add (b - a) (c - b) (drop a items)
    ∙ ap (λ l. take (b - a) (drop a items) ++ take (c - b) l) (drop-drop (b - a) a items ∙ ap (λ n. drop n items) f))

pub joined : (items : List Item) (n : ℕ) (ps : List ℕ) (from : ℕ) → Rises n from ps → flat_map (λ b. b.items) (batches_between items from ps) ≡ slice_range items from (last_of from ps)
joined items n [] from h = sym (slice-none items from)
joined items n (p ∷ ps) from h =
    ap (λ xs. slice_range items from p ++ xs) (joined items n ps p h.1)
    ∙ slice-join items from p (last_of p ps) h.0 (last-between n ps p h.1).0

from-start : (ended : Bool) (items : List Item) → flat_map (λ b. b.items) (batches_between items 0 (closings ended items)) ≡ take (last_of 0 (closings ended items)) items
from-start ended items =
    let n : ℕ = last_of 0 (closings ended items) in
    let e : n - 0 ≡ n = omega arith in
    joined items (length items) (closings ended items) 0 (closings-rise ended items) ∙ ap (λ k. take k items) e

pub joined-of : (feed : Feed) → flat_map (λ b. b.items) (batches_of feed) ≡ closed_items feed
unfolding batches_of batches closed_items
joined-of feed = from-start (is_whole feed) (items_of feed)

-- the end is the last closing of a whole feed

closed_at : (test : ℕ → Bool) (n : ℕ) → test n ≡ true → last_of 0 (filter test (range_with_len 1 n)) ≡ n
closed_at test zero t = refl
closed_at test (suc j) t =
    let P : ℕ → Type 0 = λ k. test k ≡ true → last_of 0 (filter test (range_with_len 1 k)) ≡ k in
    subst P (add-one j) (λ u. passed_more test j ∙ ap (λ b. cond b (j + 1) (passed test j)) u) t

or-true : (a b : Bool) → b ≡ true → (a || b) ≡ true
or-true true b h = refl
or-true false b h = h

pub last-whole : (items : List Item) → last_of 0 (closings true items) ≡ length items
unfolding closings
last-whole items = closed_at (is_closing true items) (length items) (or-true (suffix_len is_update (take (length items) items) % 100 == 0) (length items == length items) (eq-eqb (length items) (length items) refl))

pub whole-of : (feed : Feed) → is_whole feed ≡ true → closed_items feed ≡ items_of feed
unfolding closed_items
whole-of feed h =
    ap (λ e. take (last_of 0 (closings e (items_of feed))) (items_of feed)) h
    ∙ ap (λ n. take n (items_of feed)) (last-whole (items_of feed))
    ∙ take_all (length (items_of feed)) (items_of feed) (omega arith)

pub none-of : batches_of (record { bytes = []; ended = false }) ≡ []
unfolding batches_of batches items_of lines_of cut_of cut_lines closings
none-of = refl

-- how many items there are

items-length : (lines : List (List ℕ)) → length (filter_map item_by lines) ≤ length lines
items-length [] = omega arith
items-length (l ∷ ls) =
    elim (item_by l) as (λ o. length (cons_option o (filter_map item_by ls)) ≤ length (l ∷ ls)) [
      | None ↦ omega (arith, items-length ls)
      | Some i ↦ omega (arith, items-length ls)
    ]

front-length : (n : ℕ) (lines : List (List ℕ)) → length (take n lines) ≤ length lines
front-length n lines = omega (arith, length-take n lines)

last-length : (ended : Bool) (rest : List ℕ) → length (last_line ended rest) ≤ length rest
last-length ended [] = omega arith
last-length true (x ∷ xs) = omega arith
last-length false (x ∷ xs) = omega arith

pub few-of : (feed : Feed) → length (items_of feed) < 2 ^ 40
unfolding items_of lines_of cut_of
few-of feed =
    let bytes : List ℕ = take (2 ^ 40 - 1) feed.bytes in
    let c : Cut = cut_lines bytes in
    let last : List (List ℕ) = last_line (feed.ended && not (is_too_much feed)) c.rest in
    omega (
      arith,
      items-length (take_while is_good (c.lines ++ last)),
      front-length (prefix_len is_good (c.lines ++ last)) (c.lines ++ last),
      length-append c.lines last,
      last-length (feed.ended && not (is_too_much feed)) c.rest,
      cut-length bytes,
      length-take (2 ^ 40 - 1) feed.bytes,
    )
