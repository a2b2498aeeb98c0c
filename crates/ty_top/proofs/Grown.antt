-- What is streamed of a list of items grows with each batch.
use Rattle.std.proofs.Common.{◌≡◌, ℕ, zero, suc, ◌+◌, ◌-◌, ◌<◌, ◌≤◌, ◌%◌, ◌==◌, Bool, true, false, cond, ◌&&◌, ◌||◌, List, [], ◌∷◌, ◌++◌, length, take, map, refl, sym, ap, subst, ◌∙◌, inl, inr, arith, append_assoc, append-nil, length-append, nat_le, eq-eqb, ne_eqb, eqb-true, lt-ltb, le-ltb, eq-or-lt_of_le, true≢false}
use Rattle.std.specs.Prelude.{slice_index, nat_lt, Some}
use Rattle.std.specs.List.{filter, filter_map, fold, range_with_len, slice_range, suffix_len}
use Rattle.std.proofs.lemmas.Bool.Decides.{leb_tells}
use Rattle.std.proofs.lemmas.Grind.{flat_map-append}
use Rattle.std.proofs.lemmas.List.FromFn.{length-map-range_with_len}
use Rattle.std.proofs.lemmas.List.Sums.{fold_push}
use Rattle.ty_base.specs.declared.item.Item.{Item}
use Rattle.ty_base.specs.declared.entry.Entry.{Entry}
use Rattle.ty_base.specs.declared.status.Status.{Status}
use Rattle.ty_base.specs.Feed.{World, after, folded, is_update, is_closing, closings, cuts_after, cuts, last, world_at, same_world, last_of, key_of, firsts, changes, deltas, entry, book, replay}
use Rattle.ty_base.specs.Batches.{IsClosed, IsNextBatch}
use Rattle.ty_crumb.specs.Batches.{entry_of, next_entries}
use Rattle.ty_crumb.specs.declared.crumb.Crumb.{Crumb}
use Rattle.ty_map.specs.Shape.{pairs}
use Rattle.ty_crumb.specs.Crumbs.{CrumbStands, snapshot_of}
use Rattle.ty_crumb.proofs.Book.{the_book_grows}
use Rattle.ty_intake.specs.declared.batch.Closed.{Closed}
use Rattle.ty_intake.specs.Batches.{batches, joined}
use Rattle.ty_wire.specs.Wire.{frames, frame}
use Rattle.ty_wire.specs.Talk.{talk, group_messages, groups_after, status_change}
use Rattle.ty_wire.specs.declared.message.Msg.{Msg}
use Rattle.ty_wire.specs.declared.message.Msg.TheVariants.{ServerHello}
use Rattle.ty_top.specs.Streamed.{streamed}
use Rattle.ty_top.specs.steps.Publisher.{crumb_messages}
use Rattle.ty_top.proofs.Told.{told, told_after, told_first, told_before, none_yet}
use Rattle.ty_intake.proofs.NextBatches.{IsNext, next_of, joined_more, next_at_end}

pub streamed_is : (items : List Item) (j : ℕ) → streamed items j ≡ frames (told (book true items) j)
unfolding streamed book
streamed_is items j =
    let es : List Entry = book true items in
    let n : ℕ = last true items in
    let numbers : length es ≡ n = length-map-range_with_len (entry true items) 1 n in
    let A : List Msg = talk es j (range_with_len (j + 1) (length es - j)) in
    ap (λ k. cond (nat_le j k) (frames (talk es j (range_with_len (j + 1) (k - j)))) (frame (ServerHello 1))) (sym numbers)
    ∙ elim (nat_le j (length es)) as (λ b. cond b (frames A) (frame (ServerHello 1)) ≡ frames (cond b A (ServerHello 1 ∷ []))) [
      | true ↦ refl
      | false ↦ sym (append-nil (frame (ServerHello 1)))
    ]

-- A list of items that ends at a closing has the same book whether the feed has ended or not

filter_same : (t u : ℕ → Bool) (k a : ℕ) → ((p : ℕ) → a ≤ p → p < a + k → t p ≡ u p) → filter t (range_with_len a k) ≡ filter u (range_with_len a k)
filter_same t u zero a h = refl
filter_same t u (suc k) a h =
    ap (λ b. cond b (a ∷ filter t (range_with_len (a + 1) k)) (filter t (range_with_len (a + 1) k))) (h a (omega arith) (omega arith))
    ∙ ap (λ xs. cond (u a) (a ∷ xs) xs) (filter_same t u k (a + 1) (λ p l m. h p (omega arith) (omega arith)))

at_end : (a : Bool) → a || false ≡ true → a || true ≡ a || false
at_end true h = refl
at_end false h = absurd (true≢false (sym h))

closings_same : (items : List Item) → IsClosed items → closings true items ≡ closings false items
unfolding closings
closings_same items (inl e) = let P : List Item → Type 0 = λ xs. closings true xs ≡ closings false xs in subst P (sym e) refl
closings_same items (inr t) =
    filter_same (is_closing true items) (is_closing false items) (length items) 1
    (λ p l m. elim (p == length items) as (λ v. (p == length items) ≡ v → (suffix_len is_update (take p items) % 100 == 0) || (true && v) ≡ (suffix_len is_update (take p items) % 100 == 0) || false) [
      | true ↦ λ e.
          let same : p ≡ length items = eqb-true p (length items) e in
          at_end (suffix_len is_update (take p items) % 100 == 0) (ap (λ n. (suffix_len is_update (take n items) % 100 == 0) || false) same ∙ t)
      | false ↦ λ e. refl
    ] refl)

pub book_same : (items : List Item) → IsClosed items → book true items ≡ book false items
unfolding book deltas cuts
book_same items c =
    let F : List ℕ → List Entry = λ ps. map (λ n. record {
      cut = slice_index (0 ∷ cuts_after items 0 ps) n;
      status = (world_at items (slice_index (0 ∷ cuts_after items 0 ps) n)).status;
      deltas = changes (world_at items (slice_index (0 ∷ cuts_after items 0 ps) (n - 1))).pairs (world_at items (slice_index (0 ∷ cuts_after items 0 ps) n)).pairs
          (firsts (filter_map key_of (slice_range items (last_of 0 (filter (λ p. nat_lt p (slice_index (0 ∷ cuts_after items 0 ps) n)) ps)) (slice_index (0 ∷ cuts_after items 0 ps) n))));
    }) (range_with_len 1 (length (cuts_after items 0 ps))) in
    ap F (closings_same items c)

book_next : (before batch : List Item) → IsClosed before → IsNextBatch true before batch
    → book true (before ++ batch) ≡ book true before ++ next_entries (length before + length batch) (folded before) batch
book_next before batch closed next =
    the_book_grows true before batch closed next
    ∙ ap (λ es. es ++ next_entries (length before + length batch) (folded before) batch) (sym (book_same before closed))

-- One batch

told_grows : (es : List Entry) (e : Entry) (j : ℕ) → (more : List Msg) × (told (es ++ e ∷ []) j ≡ told es j ++ more)
told_grows es e j = elim (leb_tells j (length es)) [
  | inl h ↦ (_, told_after es e j h.1)
  | inr h ↦
      let over : length es + 1 ≤ j = omega (arith, h.1) in
      elim (eq-or-lt_of_le over) [ inl i ↦ (_, told_first es e j (sym i)) | inr r ↦ ([], told_before es e j r ∙ sym (append-nil (told es j))) ]
]

pub grown_same : (items more : List Item) (j : ℕ) → book true more ≡ book true items → streamed more j ≡ streamed items j ++ []
grown_same items more j e =
    streamed_is more j ∙ ap (λ es. frames (told es j)) e ∙ sym (streamed_is items j) ∙ sym (append-nil (streamed items j))

pub grown_by : (items more : List Item) (j : ℕ) (es : List Entry) (ms : List Msg) → book true more ≡ es → told es j ≡ told (book true items) j ++ ms → streamed more j ≡ streamed items j ++ frames ms
grown_by items more j es ms e h =
    streamed_is more j
    ∙ ap (λ l. frames (told l j)) e
    ∙ ap frames h
    ∙ flat_map-append frame (told (book true items) j) ms
    ∙ ap (λ xs. xs ++ frames ms) (sym (streamed_is items j))

pub one_more : (j : ℕ) (before batch : List Item) → IsClosed before → IsNextBatch true before batch → (bytes : List ℕ) × (streamed (before ++ batch) j ≡ streamed before j ++ bytes)
one_more j before batch closed next =
    let w : World = folded before in
    let v : World = fold after w batch in
    let e : Entry = entry_of (length before + length batch) w v batch in
    elim (same_world w v) as (λ b. book true (before ++ batch) ≡ book true before ++ cond b [] (e ∷ []) → (bytes : List ℕ) × (streamed (before ++ batch) j ≡ streamed before j ++ bytes)) [
      | true ↦ λ g. ([], grown_same before (before ++ batch) j (g ∙ append-nil (book true before)))
      | false ↦ λ g.
          let t = told_grows (book true before) e j in
          (frames t.0, grown_by before (before ++ batch) j (book true before ++ e ∷ []) t.0 g t.1)
    ] (book_next before batch closed next)

-- All batches that are left

pub all_more : (j : ℕ) (ended : Bool) (items : List Item) (rest done : List Closed) → batches ended items ≡ done ++ rest
    → (bytes : List ℕ) × (streamed (joined (done ++ rest)) j ≡ streamed (joined done) j ++ bytes)
all_more j ended items [] done w = ([], ap (λ (l : List Closed). streamed (joined l) j) (append-nil done) ∙ sym (append-nil (streamed (joined done) j)))
all_more j ended items (b ∷ rest) done w =
    let i : IsNext ended items done b = next_of ended items done b rest w in
    let one = one_more j (joined done) b.items i.closed (next_at_end ended (joined done) b.items i.next) in
    let go = all_more j ended items rest (done ++ b ∷ []) (w ∙ sym (append_assoc done (b ∷ []) rest)) in (
      one.0 ++ go.0,
      ap (λ (l : List Closed). streamed (joined l) j) (sym (append_assoc done (b ∷ []) rest))
          ∙ go.1
          ∙ ap (λ xs. streamed xs j ++ go.0) (joined_more done b)
          ∙ ap (λ x. x ++ go.0) one.1
          ∙ append_assoc (streamed (joined done) j) one.0 go.0,
    )

-- A breadcrumb

pub crumb_told : (es : List Entry) (e : Entry) (j : ℕ) (s : Status) (c : Crumb) → s ≡ (replay es).status → CrumbStands c (es ++ e ∷ []) → told (es ++ e ∷ []) j ≡ told es j ++ crumb_messages j s c
crumb_told es e j s c at st =
    let longer : List Entry = es ++ e ∷ [] in
    let n : c.number ≡ length es + 1 = st.number ∙ length-append es (e ∷ []) in
    let ds : c.deltas ≡ e.deltas = st.deltas ∙ fold_push (λ _ x. x.deltas) [] es e in
    let first : List Msg = group_messages (snapshot_of (pairs c.pairs)) (Some c.status) c.number in
    let later : List Msg = group_messages c.deltas (status_change s c.status) c.number in
    elim (leb_tells j (length es)) [
      | inl h ↦
          let le : j ≤ length es = h.1 in
          told_after es e j le
          ∙ ap (λ ms. told es j ++ ms) (sym (
          ap (λ b. cond b [] (cond (c.number == j) first later)) (le-ltb c.number j (omega (arith, n)))
          ∙ ap (λ b. cond b first later) (ne_eqb c.number j (λ x. omega (arith, n)))
          ∙ ap (λ d. group_messages d (status_change s c.status) c.number) ds
          ∙ ap (λ t. group_messages e.deltas (status_change t c.status) c.number) at
          ∙ ap (λ (w : World). group_messages e.deltas (status_change (replay es).status w.status) c.number) st.world
          ∙ ap (λ k. group_messages e.deltas (status_change (replay es).status (replay longer).status) k) n))
      | inr h ↦
          let over : length es + 1 ≤ j = omega (arith, h.1) in
          elim (eq-or-lt_of_le over) [
            | inl i ↦
                told_first es e j (sym i)
                ∙ ap (λ ms. told es j ++ ms) (sym (
                ap (λ b. cond b [] (cond (c.number == j) first later)) (le-ltb c.number j (omega (arith, n)))
                ∙ ap (λ b. cond b first later) (eq-eqb c.number j (n ∙ i))
                ∙ ap (λ (w : World). group_messages (snapshot_of w.pairs) (Some w.status) c.number) st.world
                ∙ ap (λ k. group_messages (snapshot_of (replay longer).pairs) (Some (replay longer).status) k) n))
            | inr r ↦
                told_before es e j r
                ∙ sym (append-nil (told es j))
                ∙ ap (λ ms. told es j ++ ms) (sym (ap (λ b. cond b [] (cond (c.number == j) first later)) (lt-ltb c.number j (omega (arith, n)))))
          ]
    ]

-- behind the server hello
pub crumb_opens : (j : ℕ) (s : Status) (c : Crumb) → CrumbStands c [] → told [] j ≡ ServerHello 1 ∷ crumb_messages j s c
unfolding replay groups_after
crumb_opens j s c st =
    opens j
  where
    opens : (j : ℕ) → told [] j ≡ ServerHello 1 ∷ crumb_messages j s c
    opens zero =
        append-nil (ServerHello 1 ∷ group_messages (snapshot_of (replay []).pairs) (Some (replay []).status) 0)
        ∙ ap (λ ms. ServerHello 1 ∷ ms) (sym (
        ap (λ b. cond b [] (cond (c.number == 0) (group_messages (snapshot_of (pairs c.pairs)) (Some c.status) c.number) (group_messages c.deltas (status_change s c.status) c.number))) (le-ltb c.number 0 (omega arith))
        ∙ ap (λ b. cond b (group_messages (snapshot_of (pairs c.pairs)) (Some c.status) c.number) (group_messages c.deltas (status_change s c.status) c.number)) (eq-eqb c.number 0 st.number)
        ∙ ap (λ (w : World). group_messages (snapshot_of w.pairs) (Some w.status) c.number) st.world
        ∙ ap (λ k. group_messages (snapshot_of (replay []).pairs) (Some (replay []).status) k) st.number))
    opens (suc k) =
        none_yet [] (suc k) (omega arith)
        ∙ ap (λ ms. ServerHello 1 ∷ ms) (sym (ap (λ b. cond b [] (cond (c.number == suc k) (group_messages (snapshot_of (pairs c.pairs)) (Some c.status) c.number) (group_messages c.deltas (status_change s c.status) c.number))) (lt-ltb c.number (suc k) (omega (arith, st.number)))))
