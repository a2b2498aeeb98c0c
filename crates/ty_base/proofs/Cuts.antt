-- Closings and cuts.
use Rattle.std.proofs.Common.{◌≡◌, ℕ, zero, suc, ◌+◌, ◌<◌, ◌≤◌, Bool, true, false, cond, List, [], ◌∷◌, ◌++◌, length, refl, sym, ap, ◌∙◌, arith, suc-add, zero-add, append-nil, lt-ltb, le-ltb, get_or}
use Rattle.std.specs.Bool.{nat_lt}
use Rattle.std.specs.List.{filter, range_with_len}
use Rattle.std.proofs.lemmas.List.Elements.{filter-append}
use Rattle.ty_base.specs.declared.item.Item.{Item}
use Rattle.ty_base.specs.Feed.{is_closing, closings, cuts_after, cuts, world_at, same_world, last_of, closing_before, book, deltas, replay}
use Rattle.ty_base.proofs.Pairs.{worlds_decide}

-- lists of positions

pub range_split : (n a m b : ℕ) → a + n ≡ b → range_with_len a (n + m) ≡ range_with_len a n ++ range_with_len b m
unfolding cuts_after cuts closings book deltas replay
range_split zero a m b e = rw (zero-add m) (ap (λ x. range_with_len x m) (omega arith))
range_split (suc n) a m b e = rw (suc-add n m) (ap (λ xs. a ∷ xs) (range_split n (a + 1) m b (omega arith)))

pub below_all : (test : ℕ → Bool) (n a c : ℕ) → a + n ≤ c → filter (λ p. nat_lt p c) (filter test (range_with_len a n)) ≡ filter test (range_with_len a n)
unfolding cuts_after cuts closings book deltas replay
below_all test zero a c h = refl
below_all test (suc n) a c h =
    let rest : filter (λ p. nat_lt p c) (filter test (range_with_len (a + 1) n)) ≡ filter test (range_with_len (a + 1) n) = below_all test n (a + 1) c (omega arith) in
    elim (test a) as (λ v. filter (λ p. nat_lt p c) (cond v (a ∷ filter test (range_with_len (a + 1) n)) (filter test (range_with_len (a + 1) n))) ≡ cond v (a ∷ filter test (range_with_len (a + 1) n)) (filter test (range_with_len (a + 1) n))) [
      | true ↦ rw (lt-ltb a c (omega arith)) (ap (λ xs. a ∷ xs) rest)
      | false ↦ rest
    ]

pub above_none : (test : ℕ → Bool) (n a c : ℕ) → c ≤ a → filter (λ p. nat_lt p c) (filter test (range_with_len a n)) ≡ []
unfolding cuts_after cuts closings book deltas replay
above_none test zero a c h = refl
above_none test (suc n) a c h =
    let rest : filter (λ p. nat_lt p c) (filter test (range_with_len (a + 1) n)) ≡ [] = above_none test n (a + 1) c (omega arith) in
    elim (test a) as (λ v. filter (λ p. nat_lt p c) (cond v (a ∷ filter test (range_with_len (a + 1) n)) (filter test (range_with_len (a + 1) n))) ≡ []) [
      | true ↦ rw (le-ltb a c (omega arith)) rest
      | false ↦ rest
    ]

-- of the positions that pass, those below j + 1 are those up to j
pub passed_before : (test : ℕ → Bool) (n j m : ℕ) → j + m ≡ n → filter (λ p. nat_lt p (j + 1)) (filter test (range_with_len 1 n)) ≡ filter test (range_with_len 1 j)
unfolding cuts_after cuts closings book deltas replay
passed_before test n j m e =
    ap (λ x. filter (λ p. nat_lt p (j + 1)) (filter test (range_with_len 1 x))) (sym e)
    ∙ ap (λ xs. filter (λ p. nat_lt p (j + 1)) (filter test xs)) (range_split j 1 m (j + 1) (omega arith))
    ∙ ap (filter (λ p. nat_lt p (j + 1))) (filter-append test (range_with_len 1 j) (range_with_len (j + 1) m))
    ∙ filter-append (λ p. nat_lt p (j + 1)) (filter test (range_with_len 1 j)) (filter test (range_with_len (j + 1) m))
    ∙ ap (λ xs. xs ++ filter (λ p. nat_lt p (j + 1)) (filter test (range_with_len (j + 1) m))) (below_all test j 1 (j + 1) (omega arith))
    ∙ ap (λ xs. filter test (range_with_len 1 j) ++ xs) (above_none test m (j + 1) (j + 1) (omega arith))
    ∙ append-nil (filter test (range_with_len 1 j))

last_of_more : (xs : List ℕ) (d x : ℕ) → last_of d (xs ++ x ∷ []) ≡ x
unfolding cuts_after cuts closings book deltas replay
last_of_more [] d x = refl
last_of_more (y ∷ ys) d x = last_of_more ys y x

pub last_of_le : (test : ℕ → Bool) (n a d b : ℕ) → d ≤ b → a + n ≤ b + 1 → last_of d (filter test (range_with_len a n)) ≤ b
unfolding cuts_after cuts closings book deltas replay
last_of_le test zero a d b h k = h
last_of_le test (suc n) a d b h k =
    elim (test a) as (λ v. last_of d (cond v (a ∷ filter test (range_with_len (a + 1) n)) (filter test (range_with_len (a + 1) n))) ≤ b) [
      | true ↦ last_of_le test n (a + 1) a b (omega arith) (omega arith)
      | false ↦ last_of_le test n (a + 1) d b h (omega arith)
    ]

-- the last position up to j that passes, or 0
abbrev pub passed : (ℕ → Bool) → ℕ → ℕ
passed test j = last_of 0 (filter test (range_with_len 1 j))

pub passed_more : (test : ℕ → Bool) (j : ℕ) → passed test (j + 1) ≡ cond (test (j + 1)) (j + 1) (passed test j)
unfolding cuts_after cuts closings book deltas replay
passed_more test j =
    ap (last_of 0) (ap (filter test) (range_split j 1 1 (j + 1) (omega arith)) ∙ filter-append test (range_with_len 1 j) (range_with_len (j + 1) 1))
    ∙ elim (test (j + 1)) as (λ v. last_of 0 (filter test (range_with_len 1 j) ++ cond v ((j + 1) ∷ []) []) ≡ cond v (j + 1) (passed test j)) [
      | true ↦ last_of_more (filter test (range_with_len 1 j)) 0 (j + 1)
      | false ↦ ap (last_of 0) (append-nil (filter test (range_with_len 1 j)))
    ]

-- each cut against the one before

-- p is a cut that comes after c: up to the last closing before p the world is that at c
pub record Follows (ended : Bool) (items : List Item) (c p : ℕ) : Type 0 where
  pub from : closing_before ended items p ≤ p
  pub same : world_at items (closing_before ended items p) ≡ world_at items c
  pub within : p ≤ length items

abbrev pub AllFollow : Bool → List Item → ℕ → List ℕ → Type 0
AllFollow ended items c [] = Unit {0}
AllFollow ended items c (p ∷ ps) = Follows ended items c p × AllFollow ended items p ps

pub closing_before_is : (ended : Bool) (items : List Item) (j m : ℕ) → j + m ≡ length items → closing_before ended items (j + 1) ≡ passed (is_closing ended items) j
unfolding cuts_after cuts closings book deltas replay
closing_before_is ended items j m e = ap (last_of 0) (passed_before (is_closing ended items) (length items) j m e)

pub follows_here : (ended : Bool) (items : List Item) (n j c : ℕ) → j + suc n ≡ length items → world_at items (passed (is_closing ended items) j) ≡ world_at items c → Follows ended items c (j + 1)
unfolding cuts_after cuts closings book deltas replay
follows_here ended items n j c e h =
    let is : closing_before ended items (j + 1) ≡ passed (is_closing ended items) j = closing_before_is ended items j (suc n) e in
    let le : passed (is_closing ended items) j ≤ j = last_of_le (is_closing ended items) j 1 0 j (omega arith) (omega arith) in
    record {
      from = omega arith;
      same = ap (world_at items) is ∙ h;
      within = omega arith;
    }

follow : (ended : Bool) (items : List Item) (n j c : ℕ) → j + n ≡ length items → world_at items (passed (is_closing ended items) j) ≡ world_at items c
    → AllFollow ended items c (cuts_after items c (filter (is_closing ended items) (range_with_len (j + 1) n)))
unfolding cuts_after cuts closings book deltas replay
follow ended items zero j c e h = tt
follow ended items (suc n) j c e h =
    let test : ℕ → Bool = is_closing ended items in
    let rest : List ℕ = filter test (range_with_len (j + 1 + 1) n) in
    elim (test (j + 1)) as (λ v. test (j + 1) ≡ v → AllFollow ended items c (cuts_after items c (cond v ((j + 1) ∷ rest) rest))) [
      | true ↦ λ t.
          let now : passed test (j + 1) ≡ j + 1 = passed_more test j ∙ ap (λ v. cond v (j + 1) (passed test j)) t in
          elim (same_world (world_at items c) (world_at items (j + 1))) as (λ v. same_world (world_at items c) (world_at items (j + 1)) ≡ v → AllFollow ended items c (cond v (cuts_after items c rest) ((j + 1) ∷ cuts_after items (j + 1) rest))) [
            | true ↦ λ s. follow ended items n (j + 1) c (omega arith) (ap (world_at items) now ∙ sym ((worlds_decide (world_at items c) (world_at items (j + 1))).0 s))
            | false ↦ λ s. (follows_here ended items n j c e h, follow ended items n (j + 1) (j + 1) (omega arith) (ap (world_at items) now))
          ] refl
      | false ↦ λ t. follow ended items n (j + 1) c (omega arith) (ap (world_at items) (passed_more test j ∙ ap (λ v. cond v (j + 1) (passed test j)) t) ∙ h)
    ] refl

pub all_follow : (ended : Bool) (items : List Item) → AllFollow ended items 0 (cuts ended items)
unfolding cuts_after cuts closings book deltas replay
all_follow ended items = follow ended items (length items) 0 0 (omega arith) refl

-- by number
pub follow_at : (ended : Bool) (items : List Item) (ps : List ℕ) (c n : ℕ) → AllFollow ended items c ps → n < length ps
    → Follows ended items (get_or (c ∷ ps) n 0) (get_or (c ∷ ps) (n + 1) 0)
unfolding cuts_after cuts closings book deltas replay
follow_at ended items [] c n h l = absurd (omega arith)
follow_at ended items (p ∷ ps) c zero h l = h.0
follow_at ended items (p ∷ ps) c (suc n) h l = rw (suc-add n 1) (follow_at ended items ps p n h.1 (omega arith))
