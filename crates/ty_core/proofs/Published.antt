-- Breadcrumbs that batches make.
use Rattle.std.proofs.Common.{◌≡◌, ℕ, zero, suc, ◌+◌, ◌-◌, ◌<◌, ◌≤◌, Bool, true, false, cond, List, [], ◌∷◌, ◌++◌, length, take, drop, map, replicate, refl, sym, ap, subst, ◌∙◌, inl, inr, arith, append_assoc, append-nil, length-append, get_or, take-append-drop, drop-cons, add-one, take_all}
use Rattle.std.specs.List.{fold, filter, range_with_len, list_all}
use Rattle.std.proofs.lemmas.Bool.{cases_lt}
use Rattle.std.proofs.lemmas.List.{take_more, take-append-le, get_or_append_left, map-append}
use Rattle.std.proofs.lemmas.List.Folds.{list_all-append}
use Rattle.std.proofs.lemmas.List.FromFn.{length-map-range_with_len}
use Rattle.std.proofs.Math.Seq.{get_or-append_seam}
use Rattle.ty_base.specs.declared.item.Item.{Item}
use Rattle.ty_base.specs.declared.entry.Entry.{Entry}
use Rattle.ty_base.specs.declared.limits.TheConstants.{INPUT_BYTES}
use Rattle.ty_base.specs.Feed.{World, after, folded, closings, cuts_after, cuts, last, world_at, same_world, entry, book, is_closing}
use Rattle.ty_base.proofs.Passing.{left, right}
use Rattle.ty_base.specs.Batches.{IsBatch, IsClosed, IsNextBatch}
use Rattle.ty_crumb.specs.Batches.{entry_of, next_entries}
use Rattle.ty_crumb.specs.declared.crumb.Crumb.{Crumb}
use Rattle.ty_crumb.specs.declared.successor.Made.{Made}
use Rattle.ty_crumb.specs.declared.successor.Made.TheVariants.{Unchanged, Crumb as Next}
use Rattle.ty_crumb.specs.Crumbs.{CrumbStands, world_of, last_cut, entries_of, IsMadeFor}
use Rattle.ty_crumb.proofs.Book.{the_book_grows}
use Rattle.ty_intake.specs.declared.batch.Closed.{Closed}
use Rattle.ty_intake.specs.Batches.{batches, batch_fits, joined}
use Rattle.ty_core.specs.Held.{AreCrumbs, LastWithin}
use Rattle.ty_core.specs.steps.Chains.{CrumbsOf, AreOwed, ArePublished}
use Rattle.ty_intake.proofs.NextBatches.{IsNext, next_of, joined_more, is_batch, next_at_end}
use Rattle.ty_core.proofs.ClosedBook.{book_same}
use Rattle.ty_core.proofs.Small.{items_within}

abbrev pub ats : List Crumb → List ℕ
ats cs = map (λ c. c.at) cs

-- Breadcrumbs and entries

pub crumb_stands : (cs : List Crumb) (es : List Entry) (n : ℕ) (c : Crumb) → AreCrumbs cs es → n < length cs → c ≡ get_or cs n c → CrumbStands c (take n es)
crumb_stands cs es n c a h is = a.stand n c h is

-- the last one stands for all entries
pub last_stands : (cs : List Crumb) (es : List Entry) (n : ℕ) (c : Crumb) → AreCrumbs cs es → n + 1 ≡ length cs → c ≡ get_or cs n c → CrumbStands c es
last_stands cs es n c a h is =
    let P : List Entry → Type 0 = CrumbStands c in
    subst P (take_all n es (omega (arith, a.count, h))) (a.stand n c (omega (arith, h)) is)

pub crumbs_push : (cs : List Crumb) (es : List Entry) (c : Crumb) (e : Entry) → AreCrumbs cs es → CrumbStands c (es ++ e ∷ []) → AreCrumbs (cs ++ c ∷ []) (es ++ e ∷ [])
crumbs_push cs es c e a st = record {
  count = omega (arith, a.count, length-append cs (c ∷ []), length-append es (e ∷ []));
  stand = stand;
}
  where
    stand : (n : ℕ) (x : Crumb) → n < length (cs ++ c ∷ []) → x ≡ get_or (cs ++ c ∷ []) n x → CrumbStands x (take n (es ++ e ∷ []))
    stand n x h is = elim (cases_lt n (length cs)) [
      | inl lt ↦
          let P : List Entry → Type 0 = CrumbStands x in
          subst P (sym (take-append-le n es (e ∷ []) (omega (arith, a.count, lt)))) (a.stand n x lt (is ∙ get_or_append_left cs (c ∷ []) x n lt))
      | inr le ↦
          let n_is : n ≡ length cs = omega (arith, le, h, length-append cs (c ∷ [])) in
          let same : x ≡ c = is ∙ ap (λ k. get_or (cs ++ c ∷ []) k x) n_is ∙ get_or-append_seam cs c [] x in
          let P : Crumb → Type 0 = λ y. CrumbStands y (take n (es ++ e ∷ [])) in
          let Q : List Entry → Type 0 = CrumbStands c in
          subst P (sym same) (subst Q (sym (take_all n (es ++ e ∷ []) (omega (arith, le, a.count, length-append es (e ∷ []))))) st)
    ]

pub last_push : (cs : List Crumb) (c : Crumb) (n : ℕ) → c.cut ≤ n → LastWithin (cs ++ c ∷ []) n
last_push cs c n h x is =
    let at : length (cs ++ c ∷ []) - 1 ≡ length cs = omega (arith, length-append cs (c ∷ [])) in
    let same : x ≡ c = is ∙ ap (λ k. get_or (cs ++ c ∷ []) k x) at ∙ get_or-append_seam cs c [] x in
    omega (arith, h, ap (λ (y : Crumb). y.cut) same)

pub last_more : (cs : List Crumb) (n m : ℕ) → n ≤ m → LastWithin cs n → LastWithin cs m
last_more cs n m h l c is = omega (arith, h, l c is)

-- One batch

module _ (before batch : List Item) (closed : IsClosed before) (next : IsNextBatch true before batch) where
  abbrev longer : List Item
  longer = before ++ batch

  no_shorter : length before ≤ length longer
  no_shorter = omega (arith, length-append before batch)

  pub published_none : (cs : List Crumb) (now : ℕ) → CrumbsOf cs before → IsMadeFor (book false before) (book true longer) Unchanged → ArePublished cs cs now before longer
  published_none cs now k made =
      let same : book true longer ≡ book true before = made ∙ sym (book_same before closed) in
      let P : List Entry → Type 0 = AreCrumbs cs in
      record {
        crumbs_of = record { stand = subst P (sym same) k.stand; cut = last_more cs (length before) (length longer) no_shorter k.cut };
        entries = [];
        grown = same ∙ sym (append-nil (book true before));
        more = [];
        whole = sym (append-nil cs);
        times = refl;
      }

  -- the next breadcrumb's cut is the batch's
  cut_within : (cut : ℕ) (w : World) (c : Crumb) → entries_of (Next c) ≡ next_entries cut w batch → c.cut ≤ cut
  cut_within cut w c e =
      let v : World = fold after w batch in
      let le : last_cut (next_entries cut w batch) ≤ cut = elim (same_world w v) as (λ b. last_cut (cond b [] (entry_of cut w v batch ∷ [])) ≤ cut) [ true ↦ omega arith | false ↦ omega arith ] in
      omega (arith, ap last_cut e, le)

  pub published_next : (cs : List Crumb) (last c : Crumb) (cut now : ℕ) → CrumbsOf cs before → cut ≡ length before + length batch
      → IsMadeFor (book false before) (book true longer) (Next c) → entries_of (Next c) ≡ next_entries cut (world_of last) batch → c.at ≡ now
      → ArePublished cs (cs ++ c ∷ []) now before longer
  published_next cs last c cut now k at made es time =
      let w : World = folded before in
      let v : World = fold after w batch in
      let e : Entry = entry_of (length before + length batch) w v batch in
      let short : book true before ≡ book false before = book_same before closed in
      let grown : book true longer ≡ book true before ++ next_entries (length before + length batch) w batch =
      the_book_grows true before batch closed next ∙ ap (λ l. l ++ next_entries (length before + length batch) w batch) (sym short) in
      let crumbs : AreCrumbs (cs ++ c ∷ []) (book true longer) =
      elim (same_world w v) as (λ b. book true longer ≡ book true before ++ cond b [] (e ∷ []) → AreCrumbs (cs ++ c ∷ []) (book true longer)) [
        | true ↦ λ h. absurd (made.1 (h ∙ append-nil (book true before) ∙ short))
        | false ↦ λ h.
            let P : List Entry → Type 0 = CrumbStands c in
            let Q : List Entry → Type 0 = AreCrumbs (cs ++ c ∷ []) in
            subst Q (sym h) (crumbs_push cs (book true before) c e k.stand (subst P h made.0))
      ] grown in
      record {
        crumbs_of = record { stand = crumbs; cut = last_push cs c (length longer) (omega (arith, cut_within cut (world_of last) c es, at, length-append before batch)) };
        entries = next_entries (length before + length batch) w batch;
        grown = grown;
        more = c ∷ [];
        whole = refl;
        times = ap (λ t. t ∷ []) time;
      }

-- Several

pub published_at_once : (cs : List Crumb) (now : ℕ) (items : List Item) → CrumbsOf cs items → ArePublished cs cs now items items
published_at_once cs now items k = record { crumbs_of = k; entries = []; grown = sym (append-nil (book true items)); more = []; whole = sym (append-nil cs); times = refl }

replicate-add : (n m x : ℕ) → replicate (n + m) x ≡ replicate n x ++ replicate m x
replicate-add zero m x =
    let e : 0 + m ≡ m = omega arith in
    ap (λ k. replicate k x) e
replicate-add (suc n) m x =
    let e : suc n + m ≡ suc (n + m) = omega arith in
    ap (λ k. replicate k x) e ∙ ap (λ l. x ∷ l) (replicate-add n m x)

pub published_then : (a b c : List Crumb) (now : ℕ) (before mid all : List Item) → ArePublished a b now before mid → ArePublished b c now mid all → ArePublished a c now before all
published_then a b c now before mid all p q = record {
  crumbs_of = q.crumbs_of;
  entries = p.entries ++ q.entries;
  grown = q.grown ∙ ap (λ l. l ++ q.entries) p.grown ∙ append_assoc (book true before) p.entries q.entries;
  more = p.more ++ q.more;
  whole = q.whole ∙ ap (λ l. l ++ q.more) p.whole ∙ append_assoc a p.more q.more;
  times = map-append (λ c. c.at) p.more q.more
      ∙ ap (λ l. l ++ ats q.more) p.times
      ∙ ap (λ l. replicate (length p.more) now ++ l) q.times
      ∙ sym (replicate-add (length p.more) (length q.more) now)
      ∙ ap (λ n. replicate n now) (sym (length-append p.more q.more));
}

-- there are no more breadcrumbs than items
pub book_few : (items : List Item) → length (book true items) ≤ length items
unfolding book cuts closings cuts_after
book_few items =
    omega (arith, length-map-range_with_len (entry true items) 1 (last true items), cuts_few (closings true items) 0, filter_few (length items) 1)
  where
    cuts_few : (ps : List ℕ) (a : ℕ) → length (cuts_after items a ps) ≤ length ps
    cuts_few [] a = omega arith
    cuts_few (p ∷ ps) a =
        elim (same_world (world_at items a) (world_at items p)) as (λ b. length (cond b (cuts_after items a ps) (p ∷ cuts_after items p ps)) ≤ length (p ∷ ps)) [
          | true ↦ omega (arith, cuts_few ps a)
          | false ↦ omega (arith, cuts_few ps p)
        ]

    filter_few : (k a : ℕ) → length (filter (is_closing true items) (range_with_len a k)) ≤ k
    filter_few zero a = omega arith
    filter_few (suc k) a =
        elim (is_closing true items a) as (λ b. length (cond b (a ∷ filter (is_closing true items) (range_with_len (a + 1) k)) (filter (is_closing true items) (range_with_len (a + 1) k))) ≤ suc k) [
          | true ↦ omega (arith, filter_few k (a + 1))
          | false ↦ omega (arith, filter_few k (a + 1))
        ]

pub few_numbers : (cs : List Crumb) (items : List Item) (c : Crumb) → CrumbsOf cs items → c ≡ get_or cs (length cs - 1) c → c.number ≤ length items
few_numbers cs items c k is =
    let st : CrumbStands c (book true items) = last_stands cs (book true items) (length cs - 1) c k.stand (omega (arith, k.stand.count)) is in
    omega (arith, st.number, book_few items)

-- what `next_crumb` says of the items of a batch
pub made_here : (m n : Made) (last : Crumb) (before items batch : List Item) (cut : ℕ) → m ≡ n → items ≡ batch
    → ((ended : Bool) (start : List Item) → IsClosed start → IsNextBatch ended start items → cut ≡ length start + length items → CrumbStands last (book false start) → IsMadeFor (book false start) (book ended (start ++ items)) m)
    → IsClosed before → IsNextBatch true before batch → cut ≡ length before + length batch → CrumbStands last (book true before) → IsMadeFor (book false before) (book true (before ++ batch)) n
made_here m n last before items batch cut i e h closed next at k =
    let P : List Item → Type 0 = λ xs. (ended : Bool) (start : List Item) → IsClosed start → IsNextBatch ended start xs → cut ≡ length start + length xs → CrumbStands last (book false start) → IsMadeFor (book false start) (book ended (start ++ xs)) m in
    let Q : List Entry → Type 0 = CrumbStands last in
    let R : Made → Type 0 = IsMadeFor (book false before) (book true (before ++ batch)) in
    subst R i (subst P e h true before closed next at (subst Q (book_same before closed) k))

-- The batches that are owed

module _ (c0 : List Crumb) (closed : List Closed) (i : ℕ) (b : Closed) (h : i < length closed) (is : b ≡ get_or closed i b) (o : AreOwed c0 closed) where
  abbrev front : List Closed
  front = o.done ++ take i closed

  split : closed ≡ take i closed ++ b ∷ drop (i + 1) closed
  split = sym (take-append-drop i closed) ∙ ap (λ l. take i closed ++ l) (drop-cons closed i b h ∙ ap (λ n. get_or closed i b ∷ drop n closed) (sym (add-one i)) ∙ ap (λ x. x ∷ drop (i + 1) closed) (sym is))

  whole : batches o.ended o.items ≡ front ++ b ∷ drop (i + 1) closed
  whole = o.whole ∙ ap (λ l. o.done ++ l) split ∙ sym (append_assoc o.done (take i closed) (b ∷ drop (i + 1) closed))

  is_next : IsNext o.ended o.items front b
  is_next = next_of o.ended o.items front b (drop (i + 1) closed) whole

  front_more : o.done ++ take (i + 1) closed ≡ front ++ b ∷ []
  front_more = ap (λ l. o.done ++ l) (take_more closed i b h ∙ ap (λ x. take i closed ++ x ∷ []) (sym is)) ∙ sym (append_assoc o.done (take i closed) (b ∷ []))

  pub batch_is : IsBatch b.items
  batch_is =
      let all : list_all batch_fits (take i closed ++ b ∷ drop (i + 1) closed) ≡ true = ap (list_all batch_fits) (sym split) ∙ o.fits in
      let rest : list_all batch_fits (b ∷ drop (i + 1) closed) ≡ true = right (list_all batch_fits (take i closed)) (list_all batch_fits (b ∷ drop (i + 1) closed)) (sym (list_all-append batch_fits (take i closed) (b ∷ drop (i + 1) closed)) ∙ all) in
      is_batch o.ended (joined front) b.items is_next.closed is_next.next (items_within b.items (left (batch_fits b) (list_all batch_fits (drop (i + 1) closed)) rest))

  module _ (cs : List Crumb) (now : ℕ) (p : ArePublished c0 cs now (joined o.done) (joined front)) where
    pub some_is : 0 < length cs
    some_is = omega (arith, p.crumbs_of.stand.count)

    pub cut_is : LastWithin cs b.cut
    cut_is = last_more cs (length (joined front)) b.cut (omega (arith, is_next.cut)) p.crumbs_of.cut

    pub few_is : (c : Crumb) → c ≡ get_or cs (length cs - 1) c → c.number < INPUT_BYTES
    few_is c at = omega (arith, few_numbers cs (joined front) c p.crumbs_of at, is_next.cut, is_next.within, o.few)

    pub step_is : (ds : List Crumb) → ((before : List Item) → IsClosed before → IsNextBatch true before b.items → b.cut ≡ length before + length b.items → CrumbsOf cs before → ArePublished cs ds now before (before ++ b.items))
        → ArePublished c0 ds now (joined o.done) (joined (o.done ++ take (i + 1) closed))
    step_is ds s =
        let P : List Item → Type 0 = λ l. ArePublished c0 ds now (joined o.done) l in
        subst P (sym (joined_more front b) ∙ ap joined (sym front_more))
        (published_then c0 cs ds now (joined o.done) (joined front) (joined front ++ b.items) p (s (joined front) is_next.closed (next_at_end o.ended (joined front) b.items is_next.next) is_next.cut p.crumbs_of))

pub published_begins : (cs : List Crumb) (closed : List Closed) (now : ℕ) (o : AreOwed cs closed) → ArePublished cs cs now (joined o.done) (joined (o.done ++ []))
published_begins cs closed now o =
    let P : List Closed → Type 0 = λ l. ArePublished cs cs now (joined o.done) (joined l) in
    subst P (sym (append-nil o.done)) (published_at_once cs now (joined o.done) o.crumbs_of)

pub published_all : (c0 cs : List Crumb) (closed : List Closed) (i now : ℕ) (o : AreOwed c0 closed) → length closed ≤ i → ArePublished c0 cs now (joined o.done) (joined (o.done ++ take i closed)) → ArePublished c0 cs now (joined o.done) (joined (o.done ++ closed))
published_all c0 cs closed i now o h p =
    let P : List Closed → Type 0 = λ l. ArePublished c0 cs now (joined o.done) (joined (o.done ++ l)) in
    subst P (take_all i closed h) p
