-- A feed that is read piece by piece: what was stated of it.
use Rattle.std.proofs.Common.{◌≡◌, ℕ, ◌+◌, ◌<◌, ◌≤◌, ◌^◌, true, false, cond, not, List, [], ◌∷◌, ◌++◌, length, refl, sym, ap, subst, ◌∙◌, arith, append-nil, length-append, leb-false, true≢false}
use Rattle.std.specs.Prelude.{Option, None, Some, Result, Ok, Err, is_some}
use Rattle.std.specs.Option.{option_or}
use Rattle.std.specs.List.{list_all}
use Rattle.std.proofs.lemmas.List.Folds.{list_all-append}
use Rattle.ty_base.proofs.Passing.{both, left, right}
use Rattle.ty_base.specs.Limits.{is_small, AreSmall}
use Rattle.std.proofs.lemmas.Grind.{flat_map-append}
use Rattle.std.specs.Io.KnownBytes.{Appends, Consumes, IsAtEnd}
use Rattle.ty_base.specs.Causes.{Rose}
use Rattle.ty_base.specs.Fronts.{AppendsFront}
use Rattle.ty_base.proofs.Known.{Appends-then, Appends-same, AppendsFront-after, Consumes-then}
use Rattle.ty_base.specs.Devices.{Output, Seen}
use Rattle.ty_base.specs.declared.limits.TheConstants.{INPUT_BYTES}
use Rattle.ty_crumb.specs.declared.crumb.Crumb.{Crumb}
use Rattle.ty_crumb.specs.Crumbs.{CrumbStands}
use Rattle.ty_base.specs.declared.entry.Entry.{Entry}
use Rattle.ty_base.specs.Feed.{book, cuts, closings, cuts_after}
use Rattle.ty_intake.specs.declared.batch.Closed.{Closed}
use Rattle.ty_intake.specs.declared.intake.IntakeFault.{IntakeFault}
use Rattle.ty_intake.specs.declared.intake.IntakeFault.TheVariants.{TooMuch}
use Rattle.ty_intake.specs.Lines.{Feed as FeedSoFar, fed_with, ended_now, no_feed, is_too_much, lines_of, cut_of, cut_lines}
use Rattle.ty_intake.specs.Faults.{feed_fault, first_line_fault, rest_fault, end_fault}
use Rattle.ty_intake.specs.Batches.{items_of, is_whole, batches_of, batch_fits, closed_items, joined}
use Rattle.ty_intake.specs.Held.{IntakeHeld, IntakeStands}
use Rattle.ty_intake.proofs.JoinedBatches.{joined-of, few-of, whole-of, none-of}
use Rattle.ty_core.specs.Simulated.{Taken}
use Rattle.ty_top.specs.Streamed.{streamed}
use Rattle.ty_top.specs.Endings.{stated, Streams}
use Rattle.ty_top.specs.steps.Publisher.{Gave, CrumbOf, Owed, AreGiven, AreGivenAndTold}
use Rattle.ty_top.specs.steps.Stream.{IsReadTo, Stated, StatedPart, IsPieceRead, IsEndRead, end_at, end_by}
use Rattle.ty_top.specs.declared.ending.StreamEnd.TheVariants as stream_end
use Rattle.ty_top.specs.declared.publisher.Stop.{Stop}
use Rattle.ty_top.specs.declared.publisher.Stop.TheVariants.{Fault, Sink, Memory}
use Rattle.ty_top.specs.declared.publisher.Unwritten.{Unwritten}
use Rattle.ty_top.specs.declared.publisher.Unwritten.TheVariants.{Sink as NoRoom, Memory as Short}
use Rattle.ty_top.proofs.Grown.{all_more}
use Rattle.ty_feed.proofs.FeedGrows.{batches_grow}

-- One piece, or the end

pub owed_of : (c : Crumb) (feed now : FeedSoFar) (closed : List Closed) → CrumbOf c (closed_items feed) → batches_of now ≡ batches_of feed ++ closed → list_all batch_fits closed ≡ true → Owed c closed
unfolding batches_of
owed_of c feed now closed k h fits = record {
  ended = is_whole now;
  items = items_of now;
  done = batches_of feed;
  whole = h;
  few = few-of now;
  fits = fits;
  crumb_of = subst (CrumbOf c) (sym (joined-of feed)) k;
}

joined_small : (bs : List Closed) → list_all batch_fits bs ≡ true → AreSmall (joined bs)
joined_small [] h = refl
joined_small (b ∷ bs) h =
    list_all-append is_small b.items (joined bs)
    ∙ both (left (batch_fits b) (list_all batch_fits bs) h) (joined_small bs (right (batch_fits b) (list_all batch_fits bs) h))

module _ (j : ℕ) (feed now : FeedSoFar) (closed : List Closed) (h : batches_of now ≡ batches_of feed ++ closed) where
  after_is : joined (batches_of feed ++ closed) ≡ closed_items now
  after_is = ap joined (sym h) ∙ joined-of now

  states : (bytes : List ℕ) → streamed (joined (batches_of feed ++ closed)) j ≡ streamed (joined (batches_of feed)) j ++ bytes → stated j now ≡ stated j feed ++ bytes
  states bytes e = ap (λ l. streamed l j) (sym after_is) ∙ e ∙ ap (λ l. streamed l j ++ bytes) (joined-of feed)

  still_small : list_all batch_fits closed ≡ true → AreSmall (closed_items feed) → AreSmall (closed_items now)
  still_small fits s =
      ap (list_all is_small) (sym after_is ∙ flat_map-append (λ b. b.items) (batches_of feed) closed ∙ ap (λ l. l ++ joined closed) (joined-of feed))
      ∙ list_all-append is_small (closed_items feed) (joined closed)
      ∙ both s (joined_small closed fits)

  module _ (fits : list_all batch_fits closed ≡ true) (d : Crumb) (x y : Output) where
    abbrev Published : Result (Unit {0}) Unwritten → Type 0
    Published r = AreGiven j r d (joined (batches_of feed)) (joined (batches_of feed ++ closed)) x y

    stated_whole : Published (Ok tt) → Stated j feed now x.held y.held
    stated_whole p = record { bytes = p.bytes; more = states p.bytes p.more; gave = p.gave.0; small = still_small fits }

    part_sink : Published (Err NoRoom) → StatedPart j feed now x.held y.held
    part_sink p = record { bytes = p.bytes; more = states p.bytes p.more; gave = p.gave.0 }

    part_short : Published (Err Short) → StatedPart j feed now x.held y.held
    part_short p = record { bytes = p.bytes; more = states p.bytes p.more; gave = p.gave.0 }

    pub piece_read : (result : Result (Unit {0}) Stop) (intake : IntakeHeld) (fault : Option IntakeFault) → IntakeStands intake now → fault ≡ feed_fault now
        → AreGivenAndTold j result fault d (joined (batches_of feed)) (joined (batches_of feed ++ closed)) x y → IsPieceRead j result intake d feed now x y
    piece_read (Ok u) intake fault s e p = (record { stands = s; crumb_of = subst (CrumbOf d) after_is p.0.crumb_of }, sym e ∙ p.1, stated_whole p.0)
    piece_read (Err (Fault f)) intake fault s e p = (sym e ∙ p.1, stated_whole p.0)
    piece_read (Err Sink) intake fault s e p = (p.gave.1, part_sink p)
    piece_read (Err Memory) intake fault s e p = part_short p

    pub end_read : (result : Result (Unit {0}) Stop) (fault : Option IntakeFault) → now ≡ ended_now feed → now.bytes ≡ feed.bytes → fault ≡ feed_fault now
        → AreGivenAndTold j result fault d (joined (batches_of feed)) (joined (batches_of feed ++ closed)) x y → IsEndRead j result feed x y
    end_read (Ok u) fault i b e p =
        let P : FeedSoFar → Type 0 = λ f. (feed_fault f ≡ None) × Stated j feed f x.held y.held in
        subst P i (sym e ∙ p.1, stated_whole p.0)
    end_read (Err (Fault f)) fault i b e p =
        let P : FeedSoFar → Type 0 = λ l. (feed_fault l ≡ Some f) × Stated j feed l x.held y.held in
        subst P i (sym e ∙ p.1, stated_whole p.0)
    end_read (Err Sink) fault i b e p =
        let P : FeedSoFar → Type 0 = λ l. StatedPart j feed l x.held y.held in
        (p.gave.1, subst P i (part_sink p))
    end_read (Err Memory) fault i b e p = (now, b, part_short p)

-- nothing was given of the same feed
nothing_more : (j : ℕ) (feed : FeedSoFar) (a : Option (List ℕ)) → StatedPart j feed feed a a
nothing_more j feed a = record { bytes = []; more = sym (append-nil (stated j feed)); gave = ([], [], refl, Appends-same a) }

pub end_short : (j : ℕ) (feed : FeedSoFar) (a : Output) → IsEndRead j (Err Memory) feed a a
end_short j feed a = (feed, refl, nothing_more j feed a.held)

-- want of memory before a piece's batches are known
pub piece_short : (j : ℕ) (feed : FeedSoFar) (piece : List ℕ) (a : Option (List ℕ)) → StatedPart j feed (fed_with feed piece) a a
unfolding batches_of
piece_short j feed piece a =
    let now : FeedSoFar = record feed { bytes = feed.bytes ++ piece } in
    elim (feed.ended) as (λ b. feed.ended ≡ b → StatedPart j feed (cond b feed now) a a) [
      | true ↦ λ e. nothing_more j feed a
      | false ↦ λ e.
          let g = batches_grow feed now piece e e refl in
          let more = all_more j (is_whole now) (items_of now) g.0 (batches_of feed) g.1 in
          record { bytes = more.0; more = states j feed now g.0 g.1 more.0 more.1; gave = ([], more.0, refl, Appends-same a) }
    ] refl

-- The source so far

pub record Reading (j : ℕ) (intake : IntakeHeld) (crumb : Crumb) (old now : Seen) (taken : ℕ) : Type 0 where
  pub feed : FeedSoFar
  pub counted : taken ≡ length feed.bytes
  pub going : feed.ended ≡ false
  pub good : feed_fault feed ≡ None
  pub consumed : Consumes old.source.left now.source.left feed.bytes
  pub read_to : IsReadTo intake crumb feed
  pub written : Appends old.sink.held now.sink.held (stated j feed)
  pub small : AreSmall (closed_items feed)

none_closed : closed_items no_feed ≡ []
none_closed = sym (joined-of no_feed) ∙ ap joined none-of

no_fault : feed_fault no_feed ≡ None
unfolding feed_fault first_line_fault lines_of cut_of cut_lines
no_fault = refl

pub reading_begins : (j : ℕ) (intake : IntakeHeld) (crumb : Crumb) (old now : Seen) → Consumes old.source.left now.source.left [] → IntakeStands intake no_feed → CrumbOf crumb []
    → Appends old.sink.held now.sink.held (streamed [] j) → Reading j intake crumb old now 0
reading_begins j intake crumb old now c s k w = record {
  feed = no_feed;
  counted = refl;
  going = refl;
  good = no_fault;
  consumed = c;
  read_to = record { stands = s; crumb_of = subst (CrumbOf crumb) (sym none_closed) k };
  written = subst (λ (x : List ℕ). Appends old.sink.held now.sink.held x) (ap (λ l. streamed l j) (sym none_closed)) w;
  small = ap (list_all is_small) none_closed;
}

fed_open : (feed : FeedSoFar) (piece : List ℕ) → feed.ended ≡ false → fed_with feed piece ≡ record feed { bytes = feed.bytes ++ piece }
fed_open feed piece e = ap (λ b. cond b feed (record feed { bytes = feed.bytes ++ piece })) e

module _ (j : ℕ) (intake : IntakeHeld) (crumb : Crumb) (old now : Seen) (taken : ℕ) (r : Reading j intake crumb old now taken) where
  fed_bytes : (piece : List ℕ) → (fed_with r.feed piece).bytes ≡ r.feed.bytes ++ piece
  fed_bytes piece = ap (λ (f : FeedSoFar). f.bytes) (fed_open r.feed piece r.going)

  fed_ended : (piece : List ℕ) → (fed_with r.feed piece).ended ≡ false
  fed_ended piece = ap (λ (f : FeedSoFar). f.ended) (fed_open r.feed piece r.going) ∙ r.going

  consumed_with : (left : Option (List ℕ)) (piece : List ℕ) → Consumes now.source.left left piece → Consumes old.source.left left (fed_with r.feed piece).bytes
  consumed_with left piece c = subst (λ (x : List ℕ). Consumes old.source.left left x) (sym (fed_bytes piece)) (Consumes-then old.source.left now.source.left left r.feed.bytes piece r.consumed c)

  written_more : (feed : FeedSoFar) (held : Option (List ℕ)) → Stated j r.feed feed now.sink.held held → Appends old.sink.held held (stated j feed)
  written_more feed held s = subst (λ (x : List ℕ). Appends old.sink.held held x) (sym s.more) (Appends-then old.sink.held now.sink.held held (stated j r.feed) s.bytes r.written s.gave)

  written_part : (feed : FeedSoFar) (held : Option (List ℕ)) → StatedPart j r.feed feed now.sink.held held → AppendsFront old.sink.held held (stated j feed)
  written_part feed held s = subst (λ (x : List ℕ). AppendsFront old.sink.held held x) (sym s.more) (AppendsFront-after old.sink.held now.sink.held held (stated j r.feed) s.bytes r.written s.gave)

  pub reading_more : (intake' : IntakeHeld) (crumb' : Crumb) (later : Seen) (count : ℕ) (piece : List ℕ) → Consumes now.source.left later.source.left piece → count ≡ length piece
      → IsPieceRead j (Ok tt) intake' crumb' r.feed (fed_with r.feed piece) now.sink later.sink → Reading j intake' crumb' old later (taken + count)
  reading_more intake' crumb' later count piece c e p = record {
    feed = fed_with r.feed piece;
    counted = omega (arith, r.counted, e, ap length (fed_bytes piece), length-append r.feed.bytes piece);
    going = fed_ended piece;
    good = p.1;
    consumed = consumed_with later.source.left piece c;
    read_to = p.0;
    written = written_more (fed_with r.feed piece) later.sink.held p.2;
    small = p.2.small r.small;
  }

-- Each way out

either_none : {X : Type 0} (a b : Option X) → option_or a b ≡ None → b ≡ None
either_none None b h = h
either_none (Some x) b h = absurd (some_is_none x h)
  where
    some_is_none : {X : Type 0} (x : X) → Some x ≡ None → ⊥
    some_is_none x h = true≢false (ap is_some h)

fewer : (feed : FeedSoFar) → feed_fault feed ≡ None → length feed.bytes < 2 ^ 40
unfolding feed_fault
fewer feed h =
    let last : end_fault feed ≡ None = either_none (rest_fault (length (cut_of feed).lines) (cut_of feed).rest) (end_fault feed) (either_none (first_line_fault 0 (lines_of feed)) (option_or (rest_fault (length (cut_of feed).lines) (cut_of feed).rest) (end_fault feed)) h) in
    elim (is_too_much feed) as (λ b. is_too_much feed ≡ b → cond b (Some TooMuch) None ≡ None → length feed.bytes < 2 ^ 40) [
      | true ↦ λ e n. absurd (true≢false (ap is_some n))
      | false ↦ λ e n. leb-false (2 ^ 40) (length feed.bytes) e
    ] refl last

pub reading_short : (j : ℕ) (intake : IntakeHeld) (crumb : Crumb) (old now : Seen) (taken : ℕ) → Reading j intake crumb old now taken → taken < INPUT_BYTES
reading_short j intake crumb old now taken r = omega (arith, r.counted, fewer r.feed r.good)

pub rose_later : (a b c : ℕ) → a ≤ b → Rose b c → Rose a c
rose_later a b c h r = omega (arith, h, r)

taken_open : (old new : Seen) (feed : FeedSoFar) → Consumes old.source.left new.source.left feed.bytes → feed.ended ≡ false → Taken old new feed
taken_open old new feed c e = record { bytes = c; end = λ t. absurd (true≢false (sym t ∙ e)) }

-- before the first piece

front_of_none : (j : ℕ) (a b : Option (List ℕ)) → AppendsFront a b (streamed [] j) → AppendsFront a b (stated j no_feed)
front_of_none j a b f = subst (λ (x : List ℕ). AppendsFront a b x) (ap (λ l. streamed l j) (sym none_closed)) f

pub unwritten_first : (j : ℕ) (old new : Seen) → Consumes old.source.left new.source.left [] → AppendsFront old.sink.held new.sink.held (streamed [] j) → Rose old.sink.faults new.sink.faults → Streams j stream_end.Write old new
unwritten_first j old new c f r = (no_feed, taken_open old new no_feed c refl, r, front_of_none j old.sink.held new.sink.held f)

pub short_first : (j : ℕ) (old new : Seen) → Consumes old.source.left new.source.left [] → AppendsFront old.sink.held new.sink.held (streamed [] j) → Streams j stream_end.Memory old new
short_first j old new c f = (no_feed, taken_open old new no_feed c refl, front_of_none j old.sink.held new.sink.held f)

pub whole_front : (a b : Option (List ℕ)) (xs : List ℕ) → Appends a b xs → AppendsFront a b xs
whole_front a b xs h = (xs, [], sym (append-nil xs), h)

-- behind pieces

module _ (j : ℕ) (intake : IntakeHeld) (crumb : Crumb) (old now new : Seen) (taken : ℕ) (r : Reading j intake crumb old now taken) where
  pub reading_failed : Consumes old.source.left new.source.left r.feed.bytes → new.sink.held ≡ now.sink.held → Rose old.source.faults new.source.faults → Streams j stream_end.Read old new
  reading_failed c e rose = (
    r.feed,
    taken_open old new r.feed c r.going,
    r.going,
    r.good,
    rose,
    r.small,
    subst (λ (x : Option (List ℕ)). Appends old.sink.held x (stated j r.feed)) (sym e) r.written,
  )

  taken_with : (piece : List ℕ) → Consumes now.source.left new.source.left piece → Taken old new (fed_with r.feed piece)
  taken_with piece c = taken_open old new (fed_with r.feed piece) (consumed_with j intake crumb old now taken r new.source.left piece c) (fed_ended j intake crumb old now taken r piece)

  more : (feed : FeedSoFar) → Stated j r.feed feed now.sink.held new.sink.held → Appends old.sink.held new.sink.held (stated j feed)
  more feed s = written_more j intake crumb old now taken r feed new.sink.held s

  part : (feed : FeedSoFar) → StatedPart j r.feed feed now.sink.held new.sink.held → AppendsFront old.sink.held new.sink.held (stated j feed)
  part feed s = written_part j intake crumb old now taken r feed new.sink.held s

  pub reading_stops : (stop : Stop) (intake' : IntakeHeld) (crumb' : Crumb) (piece : List ℕ) → Consumes now.source.left new.source.left piece → old.sink.faults ≤ now.sink.faults
      → IsPieceRead j (Err stop) intake' crumb' r.feed (fed_with r.feed piece) now.sink new.sink → Streams j (end_at stop) old new
  reading_stops (Fault f) intake' crumb' piece c le p = (fed_with r.feed piece, taken_with piece c, p.0, p.1.small r.small, more (fed_with r.feed piece) p.1)
  reading_stops Sink intake' crumb' piece c le p = (fed_with r.feed piece, taken_with piece c, rose_later old.sink.faults now.sink.faults new.sink.faults le p.0, part (fed_with r.feed piece) p.1)
  reading_stops Memory intake' crumb' piece c le p = (fed_with r.feed piece, taken_with piece c, part (fed_with r.feed piece) p)

  taken_all : (feed : FeedSoFar) → feed.bytes ≡ r.feed.bytes → Consumes old.source.left new.source.left r.feed.bytes → IsAtEnd new.source.left → Taken old new feed
  taken_all feed e c t = record { bytes = subst (λ (x : List ℕ). Consumes old.source.left new.source.left x) (sym e) c; end = λ h. t }

  pub reading_ends : (result : Result (Unit {0}) Stop) → Consumes old.source.left new.source.left r.feed.bytes → IsAtEnd new.source.left → old.sink.faults ≤ now.sink.faults
      → IsEndRead j result r.feed now.sink new.sink → Streams j (end_by result) old new
  reading_ends (Ok u) c t le p =
      let whole : is_whole (ended_now r.feed) ≡ true = ap (λ o. not (is_some o)) p.0 in (
        ended_now r.feed,
        taken_all (ended_now r.feed) refl c t,
        refl,
        p.0,
        subst AreSmall (whole-of (ended_now r.feed) whole) (p.1.small r.small),
        subst (λ (x : List ℕ). Appends old.sink.held new.sink.held x) (ap (λ l. streamed l j) (whole-of (ended_now r.feed) whole)) (more (ended_now r.feed) p.1),
      )
  reading_ends (Err (Fault f)) c t le p = (ended_now r.feed, taken_all (ended_now r.feed) refl c t, p.0, p.1.small r.small, more (ended_now r.feed) p.1)
  reading_ends (Err Sink) c t le p = (ended_now r.feed, taken_all (ended_now r.feed) refl c t, rose_later old.sink.faults now.sink.faults new.sink.faults le p.0, part (ended_now r.feed) p.1)
  reading_ends (Err Memory) c t le p = (p.0, taken_all p.0 p.1 c t, part p.0 p.2)

pub first_crumb : (c : Crumb) → CrumbStands c [] → CrumbOf c []
unfolding book cuts closings cuts_after
first_crumb c s =
    let P : List Entry → Type 0 = CrumbStands c in
    let none : [] ≡ book true [] = refl in
    record { stands = subst P none s; cut = omega (arith, s.cut) }

pub opening_unwritten : (e : Unwritten) (j : ℕ) (old new : Seen) → e ≡ NoRoom → Consumes old.source.left new.source.left [] → Gave (Err e) old.sink new.sink (streamed [] j) → Streams j stream_end.Write old new
opening_unwritten e j old new i c g =
    let P : Unwritten → Type 0 = λ u. Gave (Err u) old.sink new.sink (streamed [] j) in
    let h : Gave (Err NoRoom) old.sink new.sink (streamed [] j) = subst P i g in
    unwritten_first j old new c h.0 h.1

pub opening_short : (e : Unwritten) (j : ℕ) (old new : Seen) → e ≡ Short → Consumes old.source.left new.source.left [] → Gave (Err e) old.sink new.sink (streamed [] j) → Streams j stream_end.Memory old new
opening_short e j old new i c g =
    let P : Unwritten → Type 0 = λ u. Gave (Err u) old.sink new.sink (streamed [] j) in
    let h : Gave (Err Short) old.sink new.sink (streamed [] j) = subst P i g in
    short_first j old new c h.0

-- by what is said of any batches that are owed

module _ (j : ℕ) (feed now : FeedSoFar) (closed : List Closed) (h : batches_of now ≡ batches_of feed ++ closed) (c d : Crumb) (k : CrumbOf c (closed_items feed)) (fits : list_all batch_fits closed ≡ true) (x y : Output) where
  abbrev Says : Result (Unit {0}) Stop → Option IntakeFault → Type 0
  Says result fault = (o : Owed c closed) → AreGivenAndTold j result fault d (joined o.done) (joined (o.done ++ closed)) x y

  pub piece_said : (result : Result (Unit {0}) Stop) (intake : IntakeHeld) (fault : Option IntakeFault) → IntakeStands intake now → fault ≡ feed_fault now → Says result fault → IsPieceRead j result intake d feed now x y
  unfolding owed_of
  piece_said result intake fault s e p = piece_read j feed now closed h fits d x y result intake fault s e (p (owed_of c feed now closed k h fits))

  pub end_said : (result : Result (Unit {0}) Stop) (fault : Option IntakeFault) → now ≡ ended_now feed → now.bytes ≡ feed.bytes → fault ≡ feed_fault now → Says result fault → IsEndRead j result feed x y
  unfolding owed_of
  end_said result fault i b e p = end_read j feed now closed h fits d x y result fault i b e (p (owed_of c feed now closed k h fits))
