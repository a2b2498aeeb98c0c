-- More items change no cut, world or deltas that is there.
use Rattle.std.proofs.Common.{◌≡◌, ℕ, zero, suc, ◌+◌, ◌-◌, ◌<◌, ◌≤◌, ◌==◌, ◌%◌, Bool, true, false, cond, ◌&&◌, ◌||◌, List, ◌∷◌, ◌++◌, length, take, drop, length-drop, refl, sym, ap, subst, ◌∙◌, arith, add-one, suc-add, get_or, true≢false, length-append, ne_eqb}
use Rattle.std.specs.List.{filter, filter_map, range_with_len, suffix_len, slice_range}
use Rattle.std.proofs.lemmas.List.{take-append-le, drop-append-le, get_or_append_left}
use Rattle.ty_base.specs.declared.item.Item.{Item}
use Rattle.ty_base.specs.Feed.{folded, is_update, is_closing, closings, cuts_after, cuts, cut, last, world, world_at, same_world, last_of, closing_before, key_of, firsts, changes, deltas, book, replay}
use Rattle.ty_base.proofs.Cuts.{passed, last_of_le, above_none, closing_before_is, Follows, all_follow, follow_at}

module _ (ended : Bool) (items more : List Item) where
  length_more : length items ≤ length (items ++ more)
  unfolding cuts_after cuts closings book deltas replay
  length_more = omega (arith, length-append {A = Item})

  pub world_more : (p : ℕ) → p ≤ length items → world_at (items ++ more) p ≡ world_at items p
  unfolding cuts_after cuts closings book deltas replay
  world_more p h = ap folded (take-append-le p items more h)

  not_the_end : (p : ℕ) → p < length items → (p == length (items ++ more)) ≡ false
  unfolding cuts_after cuts closings book deltas replay
  not_the_end p h = ne_eqb p (length (items ++ more)) (λ e. omega (arith, length_more))

  either : (a b : Bool) → a || (b && false) ≡ a || false
  unfolding cuts_after cuts closings book deltas replay
  either a true = refl
  either a false = refl

  closing_more : (p : ℕ) → p < length items → is_closing ended (items ++ more) p ≡ is_closing false items p
  unfolding cuts_after cuts closings book deltas replay
  closing_more p h =
      ap (λ xs. (suffix_len is_update xs % 100 == 0) || (ended && (p == length (items ++ more)))) (take-append-le p items more (omega arith))
      ∙ ap (λ e. (suffix_len is_update (take p items) % 100 == 0) || (ended && e)) (not_the_end p h)
      ∙ either (suffix_len is_update (take p items) % 100 == 0) ended

  stays : (a b : Bool) → (a || false) ≡ true → (a || b) ≡ true
  unfolding cuts_after cuts closings book deltas replay
  stays true b h = refl
  stays false b h = absurd (true≢false (sym h))

  closing_kept : (p : ℕ) → p ≤ length items → is_closing false items p ≡ true → is_closing ended (items ++ more) p ≡ true
  unfolding cuts_after cuts closings book deltas replay
  closing_kept p h t =
      ap (λ xs. (suffix_len is_update xs % 100 == 0) || (ended && (p == length (items ++ more)))) (take-append-le p items more h)
      ∙ stays (suffix_len is_update (take p items) % 100 == 0) (ended && (p == length (items ++ more))) t

  -- that the cuts among the closings of the shorter list are first among those of the longer one
  abbrev Longer : (ps qs : List ℕ) (c : ℕ) → Type 0
  Longer ps qs c = (rest : List ℕ) × (cuts_after (items ++ more) c qs ≡ cuts_after items c ps ++ rest)

  abbrev short : ℕ → ℕ → List ℕ
  short j n = filter (is_closing false items) (range_with_len (j + 1) n)

  abbrev long : ℕ → ℕ → List ℕ
  long j n = filter (is_closing ended (items ++ more)) (range_with_len (j + 1) n)

  -- a position that closes no batch of the shorter list closes one of the longer at its end alone
  skipped : (n j c m : ℕ) → j + suc n ≡ length items → is_closing false items (j + 1) ≡ false → Longer (short (j + 1) n) (long (j + 1) (n + m)) c
      → Longer (short (j + 1) n) (cond (is_closing ended (items ++ more) (j + 1)) ((j + 1) ∷ long (j + 1) (n + m)) (long (j + 1) (n + m))) c
  unfolding cuts_after cuts closings book deltas replay
  skipped zero j c m e t h = (_, refl)
  skipped (suc n) j c m e t h =
      let same : is_closing ended (items ++ more) (j + 1) ≡ false = closing_more (j + 1) (omega arith) ∙ t in
      rw same h

  taken : (n j c m : ℕ) → c ≤ length items → j + 1 ≤ length items → Longer (short (j + 1) n) (long (j + 1) (n + m)) c → Longer (short (j + 1) n) (long (j + 1) (n + m)) (j + 1)
      → Longer ((j + 1) ∷ short (j + 1) n) ((j + 1) ∷ long (j + 1) (n + m)) c
  unfolding cuts_after cuts closings book deltas replay
  taken n j c m h k passed_by cut_here =
      rw (world_more c h, world_more (j + 1) k) (
      elim (same_world (world_at items c) (world_at items (j + 1))) as (λ v. (rest : List ℕ)
      × (cond v (cuts_after (items ++ more) c (long (j + 1) (n + m))) ((j + 1) ∷ cuts_after (items ++ more) (j + 1) (long (j + 1) (n + m)))
      ≡ cond v (cuts_after items c (short (j + 1) n)) ((j + 1) ∷ cuts_after items (j + 1) (short (j + 1) n)) ++ rest)) [
        | true ↦ passed_by
        | false ↦ (cut_here.0, ap (λ xs. (j + 1) ∷ xs) cut_here.1)
      ])

  cuts_more : (n j c m : ℕ) → j + n ≡ length items → c ≤ length items → Longer (short j n) (long j (n + m)) c
  unfolding cuts_after cuts closings book deltas replay
  cuts_more zero j c m e h = (_, refl)
  cuts_more (suc n) j c m e h =
      rw (suc-add n m) (
      elim (is_closing false items (j + 1)) as (λ v. is_closing false items (j + 1) ≡ v
      → Longer (cond v ((j + 1) ∷ short (j + 1) n) (short (j + 1) n)) (cond (is_closing ended (items ++ more) (j + 1)) ((j + 1) ∷ long (j + 1) (n + m)) (long (j + 1) (n + m))) c) [
        | true ↦ λ t.
            let same : is_closing ended (items ++ more) (j + 1) ≡ true = closing_kept (j + 1) (omega arith) t in
            rw same (taken n j c m h (omega arith) (cuts_more n (j + 1) c m (omega arith) h) (cuts_more n (j + 1) (j + 1) m (omega arith) (omega arith)))
        | false ↦ λ t. skipped n j c m e t (cuts_more n (j + 1) c m (omega arith) h)
      ] refl)

  -- the cuts of the shorter list are the first of the longer one's
  pub first_cuts : (rest : List ℕ) × (cuts ended (items ++ more) ≡ cuts false items ++ rest)
  unfolding cuts_after cuts closings book deltas replay
  first_cuts =
      let P : ℕ → Type 0 = λ n. (rest : List ℕ) × (cuts_after (items ++ more) 0 (long 0 n) ≡ cuts false items ++ rest) in
      subst P (sym (length-append items more)) (cuts_more (length items) 0 0 (length more) (omega arith) (omega arith))

  pub last_more : last false items ≤ last ended (items ++ more)
  unfolding cuts_after cuts closings book deltas replay
  last_more = omega (arith, ap length first_cuts.1, length-append (cuts false items) first_cuts.0)

  pub cut_more : (n : ℕ) → n ≤ last false items → cut ended (items ++ more) n ≡ cut false items n
  unfolding cuts_after cuts closings book deltas replay
  cut_more n h = ap (λ xs. get_or (0 ∷ xs) n 0) first_cuts.1 ∙ get_or_append_left (0 ∷ cuts false items) first_cuts.0 0 n (omega arith)

  cut_within : (n : ℕ) → n ≤ last false items → cut false items n ≤ length items
  unfolding cuts_after cuts closings book deltas replay
  cut_within zero h = omega arith
  cut_within (suc n) h =
      let f : Follows false items (cut false items n) (cut false items (n + 1)) = follow_at false items (cuts false items) 0 n (all_follow false items) (omega arith) in
      let P : ℕ → Type 0 = λ k. cut false items k ≤ length items in
      subst P (add-one n) f.within

  pub same_world_more : (n : ℕ) → n ≤ last false items → world ended (items ++ more) n ≡ world false items n
  unfolding cuts_after cuts closings book deltas replay
  same_world_more n h = ap (world_at (items ++ more)) (cut_more n h) ∙ world_more (cut false items n) (cut_within n h)

  -- closings before a position of the shorter list
  agree : (n j : ℕ) → j + n < length items → filter (is_closing ended (items ++ more)) (range_with_len (j + 1) n) ≡ filter (is_closing false items) (range_with_len (j + 1) n)
  unfolding cuts_after cuts closings book deltas replay
  agree zero j h = refl
  agree (suc n) j h =
      rw (closing_more (j + 1) (omega arith)) (ap (λ xs. cond (is_closing false items (j + 1)) ((j + 1) ∷ xs) xs) (agree n (j + 1) (omega arith)))

  before_more : (c : ℕ) → c ≤ length items → closing_before ended (items ++ more) c ≡ closing_before false items c
  unfolding cuts_after cuts closings book deltas replay
  before_more zero h = ap (last_of 0) (above_none (is_closing ended (items ++ more)) (length (items ++ more)) 1 0 (omega arith) ∙ sym (above_none (is_closing false items) (length items) 1 0 (omega arith)))
  before_more (suc j) h =
      let P : ℕ → Type 0 = λ c. closing_before ended (items ++ more) c ≡ closing_before false items c in
      let l : length items ≤ length (items ++ more) = length_more in
      subst P (add-one j) (
      closing_before_is ended (items ++ more) j (length (items ++ more) - j) (omega arith)
      ∙ ap (last_of 0) (agree j 0 (omega arith))
      ∙ sym (closing_before_is false items j (length items - j) (omega arith)))

  before_le : (c : ℕ) → c ≤ length items → closing_before false items c ≤ c
  unfolding cuts_after cuts closings book deltas replay
  before_le zero h = omega (arith, ap (last_of 0) (above_none (is_closing false items) (length items) 1 0 (omega arith)))
  before_le (suc j) h =
      let P : ℕ → Type 0 = λ c. closing_before false items c ≤ c in
      let is : closing_before false items (j + 1) ≡ passed (is_closing false items) j = closing_before_is false items j (length items - j) (omega arith) in
      let le : passed (is_closing false items) j ≤ j = last_of_le (is_closing false items) j 1 0 j (omega arith) (omega arith) in
      subst P (add-one j) (omega arith)

  range_more : (b c : ℕ) → b ≤ c → c ≤ length items → slice_range (items ++ more) b c ≡ slice_range items b c
  unfolding cuts_after cuts closings book deltas replay
  range_more b c h k =
      ap (take (c - b)) (drop-append-le b items more (omega arith)) ∙ take-append-le (c - b) (drop b items) more (omega (arith, length-drop b items))

  batch_more : (n : ℕ) → n ≤ last false items
      → slice_range (items ++ more) (closing_before ended (items ++ more) (cut ended (items ++ more) n)) (cut ended (items ++ more) n)
      ≡ slice_range items (closing_before false items (cut false items n)) (cut false items n)
  unfolding cuts_after cuts closings book deltas replay
  batch_more n h =
      let c : ℕ = cut false items n in
      let w : c ≤ length items = cut_within n h in
      ap (λ x. slice_range (items ++ more) (closing_before ended (items ++ more) x) x) (cut_more n h)
      ∙ ap (λ b. slice_range (items ++ more) b c) (before_more c w)
      ∙ range_more (closing_before false items c) c (before_le c w) w

  pub deltas_more : (n : ℕ) → n ≤ last false items → deltas ended (items ++ more) n ≡ deltas false items n
  unfolding cuts_after cuts closings book deltas replay
  deltas_more n h =
      let batch : List Item = slice_range (items ++ more) (closing_before ended (items ++ more) (cut ended (items ++ more) n)) (cut ended (items ++ more) n) in
      ap (λ w. changes w.pairs (world ended (items ++ more) n).pairs (firsts (filter_map key_of batch))) (same_world_more (n - 1) (omega arith))
      ∙ ap (λ w. changes (world false items (n - 1)).pairs w.pairs (firsts (filter_map key_of batch))) (same_world_more n h)
      ∙ ap (λ xs. changes (world false items (n - 1)).pairs (world false items n).pairs (firsts (filter_map key_of xs))) (batch_more n h)
