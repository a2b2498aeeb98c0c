-- The book, one cut at a time.
use Rattle.std.proofs.Common.{◌≡◌, ℕ, zero, suc, ◌+◌, ◌-◌, ◌<◌, ◌≤◌, Bool, true, false, cond, List, [], ◌∷◌, ◌++◌, length, take, get_or, map, refl, sym, ap, subst, ◌∙◌, arith, append-nil, lt-ltb, le-ltb, add-one}
use Rattle.std.specs.Bool.{nat_lt}
use Rattle.std.specs.List.{filter, filter_map, range_with_len, slice_range}
use Rattle.std.proofs.lemmas.List.Elements.{filter_more}
use Rattle.std.proofs.lemmas.List.FromFn.{map-range_with_len_more}
use Rattle.ty_base.specs.declared.item.Item.{Item}
use Rattle.ty_base.specs.declared.entry.Entry.{Entry}
use Rattle.ty_base.specs.Feed.{is_closing, closings, cuts, cut, last, world, last_of, entry, book, changes, firsts, key_of, cuts_after, deltas, replay}
use Rattle.ty_base.proofs.Cuts.{Follows, follow_at, all_follow}
use Rattle.ty_plain.specs.steps.Scans.{last_before, entry_between, NeverFall}

last_of_more : (xs : List ℕ) (d x : ℕ) → last_of d (xs ++ x ∷ []) ≡ x
last_of_more [] d x = refl
last_of_more (y ∷ ys) d x = last_of_more ys y x

last_before_more : (ps : List ℕ) (i c : ℕ) → i < length ps → last_before (take (i + 1) ps) c ≡ cond (nat_lt (get_or ps i 0) c) (get_or ps i 0) (last_before (take i ps) c)
unfolding cuts_after cuts closings book deltas replay
last_before_more ps i c h =
    let p : ℕ → Bool = λ x. nat_lt x c in
    ap (last_of 0) (filter_more p ps i 0 h)
    ∙ elim (nat_lt (get_or ps i 0) c) as (λ v. last_of 0 (filter p (take i ps) ++ cond v (get_or ps i 0 ∷ []) []) ≡ cond v (get_or ps i 0) (last_before (take i ps) c)) [
      | true ↦ last_of_more (filter p (take i ps)) 0 (get_or ps i 0)
      | false ↦ ap (last_of 0) (append-nil (filter p (take i ps)))
    ]

pub before_taken : (ps : List ℕ) (i c : ℕ) → i < length ps → get_or ps i 0 < c → get_or ps i 0 ≡ last_before (take (i + 1) ps) c
unfolding cuts_after cuts closings book deltas replay
before_taken ps i c h l = sym (last_before_more ps i c h ∙ ap (λ v. cond v (get_or ps i 0) (last_before (take i ps) c)) (lt-ltb (get_or ps i 0) c l))

pub before_passed : (ps : List ℕ) (i c : ℕ) → i < length ps → c ≤ get_or ps i 0 → last_before (take i ps) c ≡ last_before (take (i + 1) ps) c
unfolding cuts_after cuts closings book deltas replay
before_passed ps i c h l = sym (last_before_more ps i c h ∙ ap (λ v. cond v (get_or ps i 0) (last_before (take i ps) c)) (le-ltb (get_or ps i 0) c l))

-- the positions that pass rise
Rises : ℕ → ℕ → List ℕ → Type 0
unfolding cuts_after cuts closings book deltas replay
Rises low high [] = Unit {0}
Rises low high (p ∷ ps) = (low ≤ p) × (p ≤ high) × Rises p high ps

rises_filter : (test : ℕ → Bool) (n a low high : ℕ) → low ≤ a → a + n ≤ high + 1 → Rises low high (filter test (range_with_len a n))
unfolding Rises cuts_after cuts closings book deltas replay
rises_filter test zero a low high h k = tt
rises_filter test (suc n) a low high h k =
    elim (test a) as (λ v. Rises low high (cond v (a ∷ filter test (range_with_len (a + 1) n)) (filter test (range_with_len (a + 1) n)))) [
      | true ↦ (h, omega arith, rises_filter test n (a + 1) a high (omega arith) (omega arith))
      | false ↦ rises_filter test n (a + 1) low high (omega arith) (omega arith)
    ]

rises_at : (ps : List ℕ) (low high k : ℕ) → Rises low high ps → k < length ps → (get_or (low ∷ ps) k 0 ≤ get_or ps k 0) × (get_or ps k 0 ≤ high)
unfolding Rises cuts_after cuts closings book deltas replay
rises_at [] low high k r h = absurd (omega arith)
rises_at (p ∷ ps) low high zero r h = (r.0, r.1)
rises_at (p ∷ ps) low high (suc k) r h = rises_at ps p high k r.2 (omega arith)

pub closings_rise : (ended : Bool) (items : List Item) → NeverFall 0 (length items) (closings ended items)
unfolding cuts_after cuts closings book deltas replay
closings_rise ended items k h = rises_at (closings ended items) 0 (length items) k (rises_filter (is_closing ended items) (length items) 1 0 (length items) (omega arith) (omega arith)) h

-- an entry by the cut before it
pub entry_is : (ended : Bool) (items : List Item) (i : ℕ) → entry_between items (closings ended items) (cut ended items i) (cut ended items (i + 1)) ≡ entry ended items (i + 1)
unfolding cuts_after cuts closings book deltas replay
entry_is ended items i =
    let before : i ≡ i + 1 - 1 = omega arith in
    let c : ℕ = cut ended items (i + 1) in
    ap (λ k. let e : Entry = record { cut = c; status = (world ended items (i + 1)).status; deltas = changes (world ended items k).pairs (world ended items (i + 1)).pairs (firsts (filter_map key_of (slice_range items (last_before (closings ended items) c) c))) } in e) before

pub book_more : (ended : Bool) (items : List Item) (i : ℕ) → map (entry ended items) (range_with_len 1 (i + 1)) ≡ map (entry ended items) (range_with_len 1 i) ++ entry ended items (i + 1) ∷ []
unfolding cuts_after cuts closings book deltas replay
book_more ended items i = map-range_with_len_more (entry ended items) 1 i (i + 1) (omega arith)

-- each cut is within the items
pub cut_within : (ended : Bool) (items : List Item) (i : ℕ) → i < last ended items → cut ended items (i + 1) ≤ length items
unfolding cuts_after cuts closings book deltas replay
cut_within ended items i h = let f : Follows ended items (cut ended items i) (cut ended items (i + 1)) = follow_at ended items (cuts ended items) 0 i (all_follow ended items) h in f.within

-- the same of lists that equal the closings and the cuts
at_next : (cs : List ℕ) (i : ℕ) → get_or (0 ∷ cs) (i + 1) 0 ≡ get_or cs i 0
unfolding cuts_after cuts closings book deltas replay
at_next cs i = ap (λ k. get_or (0 ∷ cs) k 0) (add-one i)

pub here_within : (ended : Bool) (items : List Item) (cs : List ℕ) (i : ℕ) → cs ≡ cuts ended items → i < length cs → get_or cs i 0 ≤ length items
unfolding cuts_after cuts closings book deltas replay
here_within ended items cs i e h =
    let l : i < last ended items = subst (λ (xs : List ℕ). i < length xs) e h in
    let w : cut ended items (i + 1) ≤ length items = cut_within ended items i l in
    let same : get_or cs i 0 ≡ cut ended items (i + 1) = sym (at_next cs i) ∙ ap (λ xs. get_or (0 ∷ xs) (i + 1) 0) e in
    subst (λ k. k ≤ length items) (sym same) w

pub last_within : (ended : Bool) (items : List Item) (cs : List ℕ) (i last : ℕ) → cs ≡ cuts ended items → i < length cs → last ≡ get_or (0 ∷ cs) i 0 → last ≤ length items
unfolding cuts_after cuts closings book deltas replay
last_within ended items cs zero last e h b = omega arith
last_within ended items cs (suc i) last e h b = subst (λ k. k ≤ length items) (sym b) (here_within ended items cs i e (omega arith))

pub next_entry : (ended : Bool) (items : List Item) (ps cs : List ℕ) (i last : ℕ) → ps ≡ closings ended items → cs ≡ cuts ended items → last ≡ get_or (0 ∷ cs) i 0
    → entry_between items ps last (get_or cs i 0) ≡ entry ended items (i + 1)
unfolding cuts_after cuts closings book deltas replay
next_entry ended items ps cs i last p e b =
    ap (λ xs. entry_between items xs last (get_or cs i 0)) p
    ∙ ap (λ k. entry_between items (closings ended items) k (get_or cs i 0)) (b ∙ ap (λ xs. get_or (0 ∷ xs) i 0) e)
    ∙ ap (λ k. entry_between items (closings ended items) (cut ended items i) k) (sym (at_next cs i) ∙ ap (λ xs. get_or (0 ∷ xs) (i + 1) 0) e)
    ∙ entry_is ended items i

pub book_step : (ended : Bool) (items : List Item) (i : ℕ) (done all : List Entry) (x : Entry) → done ≡ map (entry ended items) (range_with_len 1 i) → x ≡ entry ended items (i + 1) → all ≡ done ++ x ∷ [] → all ≡ map (entry ended items) (range_with_len 1 (i + 1))
unfolding cuts_after cuts closings book deltas replay
book_step ended items i done all x d e a = a ∙ ap (λ xs. xs ++ x ∷ []) d ∙ ap (λ y. map (entry ended items) (range_with_len 1 i) ++ y ∷ []) e ∙ sym (book_more ended items i)

pub next_last : (cs : List ℕ) (i : ℕ) → get_or cs i 0 ≡ get_or (0 ∷ cs) (i + 1) 0
unfolding cuts_after cuts closings book deltas replay
next_last cs i = sym (at_next cs i)
