-- A chain behind a line, or behind the feed's end.
use Rattle.std.proofs.Common.{◌≡◌, ℕ, zero, suc, ◌+◌, ◌-◌, ◌<◌, ◌≤◌, true, false, List, [], ◌∷◌, ◌++◌, length, map, replicate, take, get_or, refl, sym, ap, subst, ◌∙◌, arith, length-append}
use Rattle.std.specs.Prelude.{Option, None, Some}
use Rattle.std.specs.List.{list_all, range_with_len}
use Rattle.std.proofs.lemmas.List.{map-append, length-map}
use Rattle.std.proofs.lemmas.List.Folds.{list_all-append}
use Rattle.std.proofs.lemmas.Grind.{flat_map-append}
use Rattle.ty_base.specs.declared.entry.Entry.{Entry}
use Rattle.std.proofs.lemmas.List.FromFn.{map-range_with_len_more}
use Rattle.ty_base.specs.Feed.{World, book, cuts, cuts_after, closings}
use Rattle.ty_base.specs.Limits.{is_small, AreSmall}
use Rattle.ty_base.proofs.Passing.{both, left, right}
use Rattle.ty_base.proofs.Replay.{replays}
use Rattle.ty_crumb.specs.declared.crumb.Crumb.{Crumb}
use Rattle.ty_crumb.specs.Crumbs.{CrumbStands}
use Rattle.ty_client.specs.Rebuilt.{Rebuilt}
use Rattle.ty_client.specs.Worlds.{numbered, rebuilt_after}
use Rattle.ty_client.proofs.Books.{book_length}
use Rattle.ty_intake.specs.declared.batch.Closed.{Closed}
use Rattle.ty_intake.specs.Lines.{Feed, no_feed, fed_with, ended_now, cut_lines, cut_of, lines_of}
use Rattle.ty_intake.specs.Faults.{first_line_fault, feed_fault}
use Rattle.ty_intake.specs.Batches.{items_of, is_whole, batches_of, batch_fits, closed_items, joined}
use Rattle.ty_intake.specs.Held.{IntakeStands}
use Rattle.ty_intake.specs.declared.intake.IntakeFault.{IntakeFault}
use Rattle.ty_intake.proofs.JoinedBatches.{few-of, joined-of, whole-of, none-of}
use Rattle.ty_core.specs.declared.chain.Chain.{Chain}
use Rattle.ty_core.specs.declared.told.Told.{Told}
use Rattle.ty_core.specs.declared.told.Told.TheVariants.{Published}
use Rattle.ty_core.specs.Clients.{newest}
use Rattle.ty_core.specs.Run.{State, no_state, book_of, trail, timed, lined, finished, feed_items}
use Rattle.ty_core.specs.Report.{world_shown, news}
use Rattle.ty_core.specs.Held.{AreCrumbs, ChainStands}
use Rattle.ty_core.specs.steps.Chains.{CrumbsOf, AreOwed, ArePublished, ChainMoved}
use Rattle.ty_core.proofs.ClosedBook.{book_closed}
use Rattle.ty_core.proofs.Published.{ats}
use Rattle.ty_core.proofs.WholeLines.{rest_lined, rest_ended, end_good}

-- What is told of a breadcrumb

pub shown_is : (s : State) (n : ℕ) → n ≤ length (book_of s) → rebuilt_after (book_of s) n ≡ world_shown s n
shown_is s n h = ap (λ (w : World). numbered n w) (replays s.feed.ended (feed_items s) n (omega (arith, h, book_length s.feed.ended (feed_items s))))

map_same : {X : Type 0} (f g : ℕ → X) (k a : ℕ) → ((n : ℕ) → a ≤ n → n < a + k → f n ≡ g n) → map f (range_with_len a k) ≡ map g (range_with_len a k)
map_same f g zero a h = refl
map_same f g (suc k) a h =
    ap (λ x. x ∷ map f (range_with_len (a + 1) k)) (h a (omega arith) (omega arith))
    ∙ ap (λ xs. g a ∷ xs) (map_same f g k (a + 1) (λ n l m. h n (omega arith) (omega arith)))

news_is : (old new : State) (from : ℕ) (told : List Told) → from ≡ newest (trail old)
    → told ≡ map (λ n. Published (rebuilt_after (book_of new) n)) (range_with_len (from + 1) (length (book_of new) - from)) → told ≡ news old new
news_is old new from told e t =
    t
    ∙ map_same (λ n. Published (rebuilt_after (book_of new) n)) (λ n. Published (world_shown new n)) (length (book_of new) - from) (from + 1) (λ n l m. ap Published (shown_is new n (omega arith)))
    ∙ ap (λ k. map (λ n. Published (world_shown new n)) (range_with_len (k + 1) (length (book_of new) - k))) e

-- Batches that come next

joined_small : (bs : List Closed) → list_all batch_fits bs ≡ true → AreSmall (joined bs)
joined_small [] h = refl
joined_small (b ∷ bs) h =
    list_all-append is_small b.items (joined bs)
    ∙ both (left (batch_fits b) (list_all batch_fits bs) h) (joined_small bs (right (batch_fits b) (list_all batch_fits bs) h))

pub book_is : (feed : Feed) → feed_fault feed ≡ None → book feed.ended (items_of feed) ≡ book true (joined (batches_of feed))
book_is feed h = book_closed feed h (whole-of feed) ∙ ap (book true) (sym (joined-of feed))

crumbs_of : (chain : Chain) (s : State) → ChainStands chain s → CrumbsOf chain.crumbs.items (joined (batches_of s.feed))
crumbs_of chain s st =
    let P : List Entry → Type 0 = AreCrumbs chain.crumbs.items in
    record {
      stand = subst P (book_is s.feed st.good) st.crumbs;
      cut = λ c is. omega (arith, st.cut c is, ap length (joined-of s.feed));
    }

-- the batches that a longer feed closes are owed
pub owed : (chain : Chain) (s : State) (feed : Feed) (closed : List Closed) → ChainStands chain s → batches_of feed ≡ batches_of s.feed ++ closed → list_all batch_fits closed ≡ true → AreOwed chain.crumbs.items closed
unfolding batches_of
owed chain s feed closed st e fits = record {
  ended = is_whole feed;
  items = items_of feed;
  done = batches_of s.feed;
  whole = e;
  few = few-of feed;
  fits = fits;
  crumbs_of = crumbs_of chain s st;
}

owed_done : (chain : Chain) (s : State) (feed : Feed) (closed : List Closed) (st : ChainStands chain s) (e : batches_of feed ≡ batches_of s.feed ++ closed) (f : list_all batch_fits closed ≡ true) → (owed chain s feed closed st e f).done ≡ batches_of s.feed
unfolding owed batches_of
owed_done chain s feed closed st e f = refl

-- the chain behind a longer feed
pub moved : (chain new : Chain) (s : State) (feed : Feed) (closed xs : List Closed) (told : List Told) (from now : ℕ) (st : ChainStands chain s)
    → batches_of feed ≡ batches_of s.feed ++ closed → list_all batch_fits closed ≡ true → xs ≡ closed → IntakeStands new.intake feed → feed_fault feed ≡ None → (cut_of feed).rest ≡ []
    → ((o : AreOwed chain.crumbs.items xs) → ArePublished chain.crumbs.items new.crumbs.items now (joined o.done) (joined (o.done ++ xs)))
    → s.now ≡ now → from + 1 ≡ length chain.crumbs.items
    → ((es : List Entry) → AreCrumbs new.crumbs.items es → told ≡ map (λ n. Published (rebuilt_after es n)) (range_with_len (from + 1) (length es - from)))
    → ChainMoved new s (timed (record s { feed = feed })) told
moved chain new s feed closed xs told from now st e fits same intake good whole publishes time from_is tells =
    let publishes_closed : (o : AreOwed chain.crumbs.items closed) → ArePublished chain.crumbs.items new.crumbs.items now (joined o.done) (joined (o.done ++ closed)) =
    (let P : List Closed → Type 0 = λ l. (o : AreOwed chain.crumbs.items l) → ArePublished chain.crumbs.items new.crumbs.items now (joined o.done) (joined (o.done ++ l)) in subst P same publishes) in
    let Q : List Closed → Type 0 = λ done. ArePublished chain.crumbs.items new.crumbs.items now (joined done) (joined (done ++ closed)) in
    let p : ArePublished chain.crumbs.items new.crumbs.items now (joined (batches_of s.feed)) (joined (batches_of s.feed ++ closed)) =
    subst Q (owed_done chain s feed closed st e fits) (publishes_closed (owed chain s feed closed st e fits)) in
    let later : State = timed (record s { feed = feed }) in
    let book_now : book_of later ≡ book true (joined (batches_of s.feed ++ closed)) = book_is feed good ∙ ap (λ bs. book true (joined bs)) e in
    let R : List Entry → Type 0 = AreCrumbs new.crumbs.items in
    let crumbs : AreCrumbs new.crumbs.items (book_of later) = subst R (sym book_now) p.crumbs_of.stand in
    let items_now : closed_items feed ≡ joined (batches_of s.feed ++ closed) = sym (joined-of feed) ∙ ap joined e in
    let len : length new.crumbs.items ≡ length chain.crumbs.items + length p.more = ap length p.whole ∙ length-append chain.crumbs.items p.more in
    let old_len : length s.times ≡ length chain.crumbs.items = ap length st.times ∙ length-map chain.crumbs.items (λ (c : Crumb). c.at) in
    let count : length (book_of later) + 1 - length s.times ≡ length p.more = omega (arith, crumbs.count, len, old_len) in
    record {
      stands = record {
        intake = intake;
        good = good;
        whole = whole;
        crumbs = crumbs;
        times = ap (λ n. s.times ++ replicate n s.now) count
            ∙ ap (λ t. s.times ++ replicate (length p.more) t) time
            ∙ ap (λ l. s.times ++ l) (sym p.times)
            ∙ ap (λ l. l ++ ats p.more) st.times
            ∙ sym (map-append (λ (c : Crumb). c.at) chain.crumbs.items p.more)
            ∙ ap ats (sym p.whole);
        cut = λ c is. omega (arith, p.crumbs_of.cut c is, ap length items_now);
        small = ap (list_all is_small) (items_now ∙ flat_map-append (λ b. b.items) (batches_of s.feed) closed ∙ ap (λ l. l ++ joined closed) (joined-of s.feed))
            ∙ list_all-append is_small (closed_items s.feed) (joined closed)
            ∙ both st.small (joined_small closed fits);
      };
      more = p.entries;
      grown = book_now ∙ p.grown ∙ ap (λ l. l ++ p.entries) (sym (book_is s.feed st.good));
      told_is = news_is s later from told (omega (arith, from_is, st.crumbs.count)) (tells (book_of later) crumbs);
    }

-- The beginning

no_fault : feed_fault no_feed ≡ None
unfolding feed_fault lines_of cut_of cut_lines first_line_fault
no_fault = refl

no_rest : (cut_of no_feed).rest ≡ []
unfolding cut_of cut_lines
no_rest = refl

no_book : book false (items_of no_feed) ≡ []
unfolding items_of lines_of cut_of cut_lines book cuts cuts_after closings
no_book = refl

pub began : (chain : Chain) (first : Crumb) → chain.crumbs.items ≡ first ∷ [] → CrumbStands first [] → first.at ≡ 0 → IntakeStands chain.intake no_feed → ChainStands chain no_state
began chain first e st at intake =
    let P : List Entry → Type 0 = AreCrumbs chain.crumbs.items in
    let Q : List Crumb → Type 0 = λ l. AreCrumbs l [] in
    record {
      intake = intake;
      good = no_fault;
      whole = no_rest;
      crumbs = subst P (sym no_book) (subst Q (sym e) one);
      times = sym (ap ats e ∙ ap (λ t. t ∷ []) at);
      cut = λ c is. omega (arith, ap (λ (x : Crumb). x.cut) (is ∙ ap (λ l. get_or l (length l - 1) c) e), st.cut);
      small = ap (list_all is_small) (sym (joined-of no_feed) ∙ ap joined none-of);
    }
  where
    one : AreCrumbs (first ∷ []) []
    one = record { count = refl; stand = stand }
      where
        stand : (n : ℕ) (c : Crumb) → n < length (first ∷ []) → c ≡ get_or (first ∷ []) n c → CrumbStands c (take n [])
        stand zero c h is = let R : Crumb → Type 0 = λ x. CrumbStands x [] in subst R (sym is) st
        stand (suc n) c h is = absurd (omega (arith, h))

-- The breadcrumbs that are told, one after another

pub news_step : (es : List Entry) (told told' : List Told) (a : Rebuilt) (from n : ℕ) → told ≡ map (λ n. Published (rebuilt_after es n)) (range_with_len (from + 1) (n - (from + 1))) → from + 1 ≤ n → a ≡ rebuilt_after es n → told' ≡ told ++ Published a ∷ []
    → told' ≡ map (λ n. Published (rebuilt_after es n)) (range_with_len (from + 1) (n + 1 - (from + 1)))
news_step es told told' a from n t h is e =
    e ∙ ap (λ l. l ++ Published a ∷ []) t
    ∙ ap (λ (x : Rebuilt). map (λ n. Published (rebuilt_after es n)) (range_with_len (from + 1) (n - (from + 1))) ++ Published x ∷ []) is
    ∙ sym (map-range_with_len_more (λ n. Published (rebuilt_after es n)) (from + 1) (n - (from + 1)) n (omega arith))
    ∙ ap (λ k. map (λ n. Published (rebuilt_after es n)) (range_with_len (from + 1) k)) (omega (arith, h))

-- A line, and the end

pub moved_line : (chain new : Chain) (s : State) (line piece : List ℕ) (closed xs : List Closed) (told : List Told) (from now : ℕ) (fault : Option IntakeFault) (st : ChainStands chain s) → piece ≡ line ++ 10 ∷ []
    → batches_of (fed_with s.feed piece) ≡ batches_of s.feed ++ closed → list_all batch_fits closed ≡ true → xs ≡ closed → IntakeStands new.intake (fed_with s.feed piece) → fault ≡ feed_fault (fed_with s.feed piece) → fault ≡ None
    → ((o : AreOwed chain.crumbs.items xs) → ArePublished chain.crumbs.items new.crumbs.items now (joined o.done) (joined (o.done ++ xs)))
    → s.now ≡ now → from + 1 ≡ length chain.crumbs.items
    → ((es : List Entry) → AreCrumbs new.crumbs.items es → told ≡ map (λ n. Published (rebuilt_after es n)) (range_with_len (from + 1) (length es - from)))
    → ChainMoved new s (lined line s) told
moved_line chain new s line piece closed xs told from now fault st is e fits same intake f none publishes time from_is tells =
    let P : List ℕ → Type 0 = λ x. batches_of (fed_with s.feed x) ≡ batches_of s.feed ++ closed in
    let Q : List ℕ → Type 0 = λ x. IntakeStands new.intake (fed_with s.feed x) in
    let good : feed_fault (fed_with s.feed (line ++ 10 ∷ [])) ≡ None = ap (λ x. feed_fault (fed_with s.feed x)) (sym is) ∙ sym f ∙ none in
    moved chain new s (fed_with s.feed (line ++ 10 ∷ [])) closed xs told from now st (subst P is e) fits same (subst Q is intake) good (rest_lined s.feed line st.whole good) publishes time from_is tells

pub faulty_line : (s : State) (line piece : List ℕ) (fault : Option IntakeFault) (f : IntakeFault) → piece ≡ line ++ 10 ∷ [] → fault ≡ feed_fault (fed_with s.feed piece) → fault ≡ Some f → feed_fault (lined line s).feed ≡ Some f
faulty_line s line piece fault f is e some = ap (λ x. feed_fault (fed_with s.feed x)) (sym is) ∙ sym e ∙ some

pub moved_end : (chain new : Chain) (s : State) (closed xs : List Closed) (told : List Told) (from now : ℕ) (st : ChainStands chain s)
    → batches_of (ended_now s.feed) ≡ batches_of s.feed ++ closed → list_all batch_fits closed ≡ true → xs ≡ closed → IntakeStands new.intake (ended_now s.feed)
    → ((o : AreOwed chain.crumbs.items xs) → ArePublished chain.crumbs.items new.crumbs.items now (joined o.done) (joined (o.done ++ xs)))
    → s.now ≡ now → from + 1 ≡ length chain.crumbs.items
    → ((es : List Entry) → AreCrumbs new.crumbs.items es → told ≡ map (λ n. Published (rebuilt_after es n)) (range_with_len (from + 1) (length es - from)))
    → ChainMoved new s (finished s) told
moved_end chain new s closed xs told from now st e fits same intake publishes time from_is tells =
    moved chain new s (ended_now s.feed) closed xs told from now st e fits same intake (end_good s.feed st.whole st.good) (rest_ended s.feed st.whole) publishes time from_is tells
