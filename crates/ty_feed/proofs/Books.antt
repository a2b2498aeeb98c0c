-- The book behind batches that are due.
use Rattle.std.proofs.Common.{◌≡◌, ℕ, zero, suc, ◌+◌, ◌-◌, ◌<◌, ◌≤◌, ◌%◌, ◌==◌, Bool, true, false, cond, ◌&&◌, ◌||◌, List, [], ◌∷◌, ◌++◌, length, take, drop, map, refl, sym, ap, subst, ◌∙◌, inl, inr, arith, append_assoc, append-nil, length-append, eqb-true, true≢false, get_or, take-append-drop, drop-cons, add-one}
use Rattle.std.specs.Prelude.{slice_index, nat_lt, Result}
use Rattle.std.specs.List.{filter, filter_map, range_with_len, slice_range, suffix_len, list_all}
use Rattle.std.proofs.lemmas.List.{take_more}
use Rattle.std.proofs.lemmas.List.Folds.{list_all-append}
use mathlib.Core.List.{IsPrefix}
use Rattle.ty_base.proofs.Passing.{both, left, right}
use Rattle.ty_base.specs.declared.item.Item.{Item}
use Rattle.ty_base.specs.declared.item.Item.TheVariants.{Put, Del, State, Mark}
use Rattle.ty_base.specs.declared.entry.Entry.{Entry}
use Rattle.ty_base.specs.declared.text.NoMemory.{NoMemory}
use Rattle.ty_base.specs.declared.limits.TheConstants.{INPUT_BYTES}
use Rattle.ty_base.specs.Feed.{folded, is_update, is_closing, closings, cuts_after, cuts, world_at, last_of, key_of, firsts, changes, deltas, book}
use Rattle.ty_base.specs.Passing.{item_passes}
use Rattle.ty_base.specs.Limits.{key_fits, value_fits, items_fit, is_key_text, is_value_text, is_small, AreSmall}
use Rattle.ty_base.specs.Batches.{IsBatch, IsClosed, IsNextBatch}
use Rattle.ty_account.proofs.Prefixes.{prefix_self, prefix_trans}
use Rattle.ty_crumb.specs.Batches.{next_entries}
use Rattle.ty_crumb.proofs.Book.{the_book_grows}
use Rattle.ty_intake.specs.declared.batch.Closed.{Closed}
use Rattle.ty_intake.specs.Batches.{batches, batch_fits, joined}
use Rattle.ty_intake.proofs.NextBatches.{IsNext, next_of, joined_more, is_batch, next_at_end}
use Rattle.ty_chain.specs.Publishing.{Issued}
use Rattle.ty_feed.specs.steps.Reading.{IsBookOf, AreDue, HavePublished}

-- A list of items that ends at a closing has the same book whether the feed has ended or not

filter_same : (t u : ℕ → Bool) (k a : ℕ) → ((p : ℕ) → a ≤ p → p < a + k → t p ≡ u p) → filter t (range_with_len a k) ≡ filter u (range_with_len a k)
filter_same t u zero a h = refl
filter_same t u (suc k) a h =
    ap (λ b. cond b (a ∷ filter t (range_with_len (a + 1) k)) (filter t (range_with_len (a + 1) k))) (h a (omega arith) (omega arith))
    ∙ ap (λ xs. cond (u a) (a ∷ xs) xs) (filter_same t u k (a + 1) (λ p l m. h p (omega arith) (omega arith)))

at_end : (a : Bool) → a || false ≡ true → a || true ≡ a || false
at_end true h = refl
at_end false h = absurd (true≢false (sym h))

closings_same : (items : List Item) → IsClosed items → closings true items ≡ closings false items
unfolding closings
closings_same items (inl e) = let P : List Item → Type 0 = λ xs. closings true xs ≡ closings false xs in subst P (sym e) refl
closings_same items (inr t) =
    filter_same (is_closing true items) (is_closing false items) (length items) 1
    (λ p l m. elim (p == length items) as (λ v. (p == length items) ≡ v → (suffix_len is_update (take p items) % 100 == 0) || (true && v) ≡ (suffix_len is_update (take p items) % 100 == 0) || false) [
      | true ↦ λ e.
          let same : p ≡ length items = eqb-true p (length items) e in
          at_end (suffix_len is_update (take p items) % 100 == 0) (ap (λ n. (suffix_len is_update (take n items) % 100 == 0) || false) same ∙ t)
      | false ↦ λ e. refl
    ] refl)

pub book_same : (items : List Item) → IsClosed items → book true items ≡ book false items
unfolding book deltas cuts
book_same items c =
    let F : List ℕ → List Entry = λ ps. map (λ n. record {
      cut = slice_index (0 ∷ cuts_after items 0 ps) n;
      status = (world_at items (slice_index (0 ∷ cuts_after items 0 ps) n)).status;
      deltas = changes (world_at items (slice_index (0 ∷ cuts_after items 0 ps) (n - 1))).pairs (world_at items (slice_index (0 ∷ cuts_after items 0 ps) n)).pairs
          (firsts (filter_map key_of (slice_range items (last_of 0 (filter (λ p. nat_lt p (slice_index (0 ∷ cuts_after items 0 ps) n)) ps)) (slice_index (0 ∷ cuts_after items 0 ps) n))));
    }) (range_with_len 1 (length (cuts_after items 0 ps))) in
    ap F (closings_same items c)

-- the book of no items
pub no_book : book true [] ≡ []
unfolding book cuts closings cuts_after
no_book = refl

-- Batches that aren't published yet add to the book

one_more : (before batch : List Item) → IsClosed before → IsNextBatch true before batch → IsPrefix (book true before) (book true (before ++ batch))
one_more before batch closed next = (
  next_entries (length before + length batch) (folded before) batch,
  ap (λ (es : List Entry). es ++ next_entries (length before + length batch) (folded before) batch) (book_same before closed) ∙ sym (the_book_grows true before batch closed next),
)

pub all_more : (ended : Bool) (items : List Item) (rest done : List Closed) → batches ended items ≡ done ++ rest → IsPrefix (book true (joined done)) (book true (joined (done ++ rest)))
all_more ended items [] done w =
    let P : List Closed → Type 0 = λ l. IsPrefix (book true (joined done)) (book true (joined l)) in
    subst P (sym (append-nil done)) (prefix_self (book true (joined done)))
all_more ended items (b ∷ rest) done w =
    let i : IsNext ended items done b = next_of ended items done b rest w in
    let P : List Item → Type 0 = λ l. IsPrefix (book true (joined done)) (book true l) in
    let Q : List Closed → Type 0 = λ l. IsPrefix (book true (joined (done ++ b ∷ []))) (book true (joined l)) in
    prefix_trans (book true (joined done)) (book true (joined (done ++ b ∷ []))) (book true (joined (done ++ b ∷ rest)))
    (subst P (sym (joined_more done b)) (one_more (joined done) b.items i.closed (next_at_end ended (joined done) b.items i.next)))
    (subst Q (append_assoc done (b ∷ []) rest) (all_more ended items rest (done ++ b ∷ []) (w ∙ sym (append_assoc done (b ∷ []) rest))))

-- Keys and values within the limits

item_within : (x : Item) → is_small x ≡ true → item_passes key_fits value_fits x ≡ true
item_within (Put key value) h =
    let k : is_key_text key ≡ true = left (is_key_text key) (is_value_text value) h in
    let v : is_value_text value ≡ true = right (is_key_text key) (is_value_text value) h in
    both (left (key_fits key) _ k) (left (value_fits value) _ v)
item_within (Del key) h = left (key_fits key) _ h
item_within (State s) h = refl
item_within Mark h = refl

items_within : (items : List Item) → AreSmall items → items_fit items ≡ true
items_within [] h = refl
items_within (x ∷ items) h = both (item_within x (left (is_small x) _ h)) (items_within items (right (is_small x) _ h))

-- Batches that are due

module _ (v : Issued) (closed : List Closed) (i : ℕ) (b : Closed) (h : i < length closed) (is : b ≡ get_or closed i b) (o : AreDue v closed) where
  abbrev front : List Closed
  front = o.done ++ take i closed

  split : closed ≡ take i closed ++ b ∷ drop (i + 1) closed
  split = sym (take-append-drop i closed) ∙ ap (λ l. take i closed ++ l) (drop-cons closed i b h ∙ ap (λ n. get_or closed i b ∷ drop n closed) (sym (add-one i)) ∙ ap (λ x. x ∷ drop (i + 1) closed) (sym is))

  whole : batches o.ended o.items ≡ front ++ b ∷ drop (i + 1) closed
  whole = o.whole ∙ ap (λ l. o.done ++ l) split ∙ sym (append_assoc o.done (take i closed) (b ∷ drop (i + 1) closed))

  is_next : IsNext o.ended o.items front b
  is_next = next_of o.ended o.items front b (drop (i + 1) closed) whole

  comes_next : IsNextBatch true (joined front) b.items
  comes_next = next_at_end o.ended (joined front) b.items is_next.next

  front_more : o.done ++ take (i + 1) closed ≡ front ++ b ∷ []
  front_more = ap (λ l. o.done ++ l) (take_more closed i b h ∙ ap (λ x. take i closed ++ x ∷ []) (sym is)) ∙ sym (append_assoc o.done (take i closed) (b ∷ []))

  pub due_batch : IsBatch b.items
  due_batch =
      let all : list_all batch_fits (take i closed ++ b ∷ drop (i + 1) closed) ≡ true = ap (list_all batch_fits) (sym split) ∙ o.fits in
      let rest : list_all batch_fits (b ∷ drop (i + 1) closed) ≡ true = right (list_all batch_fits (take i closed)) (list_all batch_fits (b ∷ drop (i + 1) closed)) (sym (list_all-append batch_fits (take i closed) (b ∷ drop (i + 1) closed)) ∙ all) in
      is_batch true (joined front) b.items is_next.closed comes_next (items_within b.items (left (batch_fits b) (list_all batch_fits (drop (i + 1) closed)) rest))

  pub due_few : (w : Issued) → IsBookOf w (joined front) → w.cut + length b.items < INPUT_BYTES
  due_few w k = omega (arith, k.cut, is_next.cut, is_next.within, o.few)

  -- what publishing a batch comes to, whatever is before it
  abbrev Publishes : Issued → Issued → Type 0
  Publishes w u = (before : List Item) → IsClosed before → IsNextBatch true before b.items → IsBookOf w before → IsBookOf u (before ++ b.items)

  pub due_step : (w u : Issued) → IsBookOf w (joined front) → Publishes w u → IsBookOf u (joined (o.done ++ take (i + 1) closed))
  due_step w u k s =
      let P : List Item → Type 0 = IsBookOf u in
      subst P (sym (joined_more front b) ∙ ap joined (sym front_more)) (s (joined front) is_next.closed comes_next k)

  pub due_stops : (w u : Issued) → IsBookOf w (joined front) → u ≡ w → IsPrefix u.known.entries (book true (joined (o.done ++ closed)))
  due_stops w u k same =
      let left_over : batches o.ended o.items ≡ front ++ drop i closed = o.whole ∙ ap (λ l. o.done ++ l) (sym (take-append-drop i closed)) ∙ sym (append_assoc o.done (take i closed) (drop i closed)) in
      let P : List Closed → Type 0 = λ l. IsPrefix (book true (joined front)) (book true (joined l)) in
      let Q : List Entry → Type 0 = λ es. IsPrefix es (book true (joined (o.done ++ closed))) in
      subst Q (sym (ap (λ (x : Issued). x.known.entries) same ∙ k.entries))
      (subst P (append_assoc o.done (take i closed) (drop i closed) ∙ ap (λ l. o.done ++ l) (take-append-drop i closed)) (all_more o.ended o.items (drop i closed) front left_over))

pub due_begins : (v : Issued) (closed : List Closed) (o : AreDue v closed) → IsBookOf v (joined (o.done ++ []))
due_begins v closed o =
    let P : List Closed → Type 0 = λ l. IsBookOf v (joined l) in
    subst P (sym (append-nil o.done)) o.book_of

-- the same list of batches
pub published_as : (r : Result (Unit {0}) NoMemory) (v u : Issued) (xs ys : List Closed) → xs ≡ ys
    → ((o : AreDue v xs) → HavePublished r u (joined (o.done ++ xs))) → (o : AreDue v ys) → HavePublished r u (joined (o.done ++ ys))
published_as r v u xs ys e h =
    let P : List Closed → Type 0 = λ l. (o : AreDue v l) → HavePublished r u (joined (o.done ++ l)) in
    subst P e h

-- one batch, by the publisher's clause of books
pub issued_more : (old new : Issued) (before batch items : List Item) → items ≡ batch → IsClosed before → IsNextBatch true before batch → IsBookOf old before → new.cut ≡ old.cut + length items
    → ((ended : Bool) (start : List Item) → IsClosed start → IsNextBatch ended start items → old.cut ≡ length start → old.known.entries ≡ book false start → new.known.entries ≡ book ended (start ++ items))
    → IsBookOf new (before ++ batch)
issued_more old new before batch items same closed next k cut books =
    let P : List Item → Type 0 = λ l. IsNextBatch true before l in
    record {
      entries = books true before closed (subst P (sym same) next) k.cut (k.entries ∙ book_same before closed) ∙ ap (λ l. book true (before ++ l)) same;
      cut = cut ∙ ap (λ n. n + length items) k.cut ∙ ap (λ l. length before + length l) same ∙ sym (length-append before batch);
    }
