-- A feed that is read piece by piece, and published so far.
use Rattle.std.proofs.Common.{◌≡◌, ℕ, zero, suc, ◌+◌, ◌<◌, ◌≤◌, ◌^◌, true, false, cond, not, List, [], ◌∷◌, ◌++◌, length, take, drop, refl, sym, ap, subst, ◌∙◌, arith, append-nil, length-append, leb-false, true≢false}
use Rattle.std.specs.Prelude.{Option, None, Some, Result, Ok, Err, is_some}
use Rattle.std.specs.Option.{option_or}
use Rattle.std.specs.List.{list_all}
use Rattle.std.specs.Io.KnownBytes.{Consumes, IsAtEnd}
use Rattle.std.proofs.lemmas.List.{take-take}
use Rattle.std.proofs.Math.Seq.{take-append-le}
use mathlib.Core.List.{IsPrefix}
use Rattle.ty_base.specs.Causes.{Rose}
use Rattle.ty_base.specs.Devices.{Input}
use Rattle.ty_base.specs.Feed.{book}
use Rattle.ty_base.specs.declared.entry.Entry.{Entry}
use Rattle.ty_base.specs.declared.item.Item.{Item}
use Rattle.ty_base.specs.declared.limits.TheConstants.{INPUT_BYTES}
use Rattle.ty_base.specs.declared.text.NoMemory.{NoMemory as Want}
use Rattle.ty_base.proofs.Known.{Consumes-then, Consumes-same}
use Rattle.ty_account.proofs.Prefixes.{prefix_self}
use Rattle.ty_intake.specs.declared.batch.Closed.{Closed}
use Rattle.ty_intake.specs.declared.intake.IntakeFault.{IntakeFault}
use Rattle.ty_intake.specs.declared.intake.IntakeFault.TheVariants.{TooMuch}
use Rattle.ty_intake.specs.Lines.{Feed, fed_with, ended_now, no_feed, is_too_much, lines_of, cut_of, cut_lines}
use Rattle.ty_intake.specs.Faults.{feed_fault, first_line_fault, rest_fault, end_fault}
use Rattle.ty_intake.specs.Batches.{items_of, is_whole, batches_of, batch_fits, closed_items, joined}
use Rattle.ty_intake.specs.Held.{IntakeHeld, IntakeStands}
use Rattle.ty_intake.proofs.JoinedBatches.{joined-of, few-of, whole-of, none-of}
use Rattle.ty_chain.specs.Publishing.{Issued}
use Rattle.ty_feed.specs.Publishing.{IsReadFrom, IfReadFailed, Publishes}
use Rattle.ty_feed.specs.steps.Reading.{IsBookOf, AreDue, HavePublished, HasReadTo, HasReadPiece, HasReadEnd, going_on, ending_by}
use Rattle.ty_feed.specs.declared.ending.FeedEnd.{FeedEnd}
use Rattle.ty_feed.specs.declared.ending.FeedEnd.TheVariants.{Done, Fault, Read, NoMemory}
use Rattle.ty_feed.proofs.Books.{all_more, no_book}
use Rattle.ty_feed.proofs.FeedGrows.{batches_grow}

-- One piece, or the end

module _ (v : Issued) (feed now : Feed) (closed : List Closed) (k : IsBookOf v (closed_items feed)) (h : batches_of now ≡ batches_of feed ++ closed) where
  after_is : joined (batches_of feed ++ closed) ≡ closed_items now
  after_is = ap joined (sym h) ∙ joined-of now

  pub due_of : list_all batch_fits closed ≡ true → AreDue v closed
  unfolding batches_of
  due_of fits = record {
    ended = is_whole now;
    items = items_of now;
    done = batches_of feed;
    whole = h;
    few = few-of now;
    fits = fits;
    book_of = subst (IsBookOf v) (sym (joined-of feed)) k;
  }

  module _ (fits : list_all batch_fits closed ≡ true) (u : Issued) where
    -- whatever batches are due, they are published
    abbrev Says : Result (Unit {0}) Want → Type 0
    Says r = (o : AreDue v closed) → HavePublished r u (joined (o.done ++ closed))

    pub all_published : Says (Ok tt) → IsBookOf u (closed_items now)
    unfolding due_of
    all_published says = subst (IsBookOf u) after_is (says (due_of fits))

    pub some_published : (e : Want) → Says (Err e) → IsPrefix u.known.entries (book true (closed_items now))
    unfolding due_of
    some_published e says =
        let P : List Item → Type 0 = λ l. IsPrefix u.known.entries (book true l) in
        subst P after_is (says (due_of fits))

-- of a longer feed the book is longer
book_grows : (feed : Feed) (piece : List ℕ) → IsPrefix (book true (closed_items feed)) (book true (closed_items (fed_with feed piece)))
unfolding batches_of
book_grows feed piece =
    let now : Feed = record feed { bytes = feed.bytes ++ piece } in
    elim (feed.ended) as (λ b. feed.ended ≡ b → IsPrefix (book true (closed_items feed)) (book true (closed_items (cond b feed now)))) [
      | true ↦ λ e. prefix_self (book true (closed_items feed))
      | false ↦ λ e.
          let g = batches_grow feed now piece e e refl in
          let P : List Item → Type 0 = λ l. IsPrefix (book true l) (book true (closed_items now)) in
          let Q : List Item → Type 0 = λ l. IsPrefix (book true (joined (batches_of feed))) (book true l) in
          subst P (joined-of feed) (subst Q (ap joined (sym g.1) ∙ joined-of now) (all_more (is_whole now) (items_of now) g.0 (batches_of feed) g.1))
    ] refl

-- want of memory before a piece's batches are known
pub piece_short : (intake : IntakeHeld) (v : Issued) (feed : Feed) (piece : List ℕ) → IsBookOf v (closed_items feed) → HasReadPiece (Err NoMemory) intake v (fed_with feed piece)
piece_short intake v feed piece k =
    let P : List Entry → Type 0 = λ es. IsPrefix es (book true (closed_items (fed_with feed piece))) in
    (subst P (sym k.entries) (book_grows feed piece), tt)

pub piece_stops : (intake : IntakeHeld) (v : Issued) (now : Feed) → IsPrefix v.known.entries (book true (closed_items now)) → HasReadPiece (Err NoMemory) intake v now
piece_stops intake v now p = (p, tt)

pub piece_read : (result : Result (Unit {0}) FeedEnd) (fault : Option IntakeFault) (intake : IntakeHeld) (v : Issued) (now : Feed) → result ≡ going_on fault → IntakeStands intake now
    → fault ≡ feed_fault now → IsBookOf v (closed_items now) → HasReadPiece result intake v now
piece_read result fault intake v now is stands f k =
    let P : Result (Unit {0}) FeedEnd → Type 0 = λ r. HasReadPiece r intake v now in
    subst P (sym is) (goes fault f)
  where
    goes : (fault : Option IntakeFault) → fault ≡ feed_fault now → HasReadPiece (going_on fault) intake v now
    goes None f = (record { stands = stands; book_of = k }, sym f)
    goes (Some e) f = ((sym f, k.entries), tt)

pub end_short : (v : Issued) (feed : Feed) → IsBookOf v (closed_items feed) → HasReadEnd NoMemory v feed
end_short v feed k =
    let P : List Entry → Type 0 = λ es. IsPrefix es (book true (closed_items feed)) in
    record { read = feed; bytes = refl; list = subst P (sym k.entries) (prefix_self (book true (closed_items feed))); cause = tt }

pub end_stops : (v : Issued) (feed : Feed) → IsPrefix v.known.entries (book true (closed_items (ended_now feed))) → HasReadEnd NoMemory v feed
end_stops v feed p = record { read = ended_now feed; bytes = refl; list = p; cause = tt }

pub end_read : (result : FeedEnd) (fault : Option IntakeFault) (v : Issued) (feed : Feed) → result ≡ ending_by fault → fault ≡ feed_fault (ended_now feed) → IsBookOf v (closed_items (ended_now feed)) → HasReadEnd result v feed
end_read result fault v feed is f k =
    let P : FeedEnd → Type 0 = λ r. HasReadEnd r v feed in
    subst P (sym is) (goes fault f)
  where
    goes : (fault : Option IntakeFault) → fault ≡ feed_fault (ended_now feed) → HasReadEnd (ending_by fault) v feed
    goes None f =
        let whole : is_whole (ended_now feed) ≡ true = ap (λ o. not (is_some o)) (sym f) in
        record {
          read = ended_now feed;
          bytes = refl;
          list = (refl, sym f, k.entries ∙ ap (book true) (whole-of (ended_now feed) whole));
          cause = tt;
        }
    goes (Some e) f = record { read = ended_now feed; bytes = refl; list = (sym f, k.entries); cause = tt }

-- The source so far

pub record SoFar (intake : IntakeHeld) (v : Issued) (old now : Input) (taken : ℕ) : Type 0 where
  pub feed : Feed
  pub counted : taken ≡ length feed.bytes
  pub going : feed.ended ≡ false
  pub good : feed_fault feed ≡ None
  pub consumed : Consumes old.left now.left feed.bytes
  pub read_to : HasReadTo intake v feed
  pub later : old.faults ≤ now.faults

none_closed : closed_items no_feed ≡ []
none_closed = sym (joined-of no_feed) ∙ ap joined none-of

no_fault : feed_fault no_feed ≡ None
unfolding feed_fault first_line_fault lines_of cut_of cut_lines
no_fault = refl

no_items : (v : Issued) → v.known.entries ≡ [] → v.cut ≡ 0 → IsBookOf v (closed_items no_feed)
no_items v e z = subst (IsBookOf v) (sym none_closed) (record { entries = e ∙ sym no_book; cut = z })

pub begins : (intake : IntakeHeld) (v : Issued) (old : Input) → v.known.entries ≡ [] → v.cut ≡ 0 → IntakeStands intake no_feed → SoFar intake v old old 0
begins intake v old e z s = record {
  feed = no_feed;
  counted = refl;
  going = refl;
  good = no_fault;
  consumed = Consumes-same old.left;
  read_to = record { stands = s; book_of = no_items v e z };
  later = omega arith;
}

either_none : {X : Type 0} (a b : Option X) → option_or a b ≡ None → b ≡ None
either_none None b h = h
either_none (Some x) b h = absurd (some_is_none x h)
  where
    some_is_none : {X : Type 0} (x : X) → Some x ≡ None → ⊥
    some_is_none x h = true≢false (ap is_some h)

fewer : (feed : Feed) → feed_fault feed ≡ None → length feed.bytes < 2 ^ 40
unfolding feed_fault
fewer feed h =
    let last : end_fault feed ≡ None = either_none (rest_fault (length (cut_of feed).lines) (cut_of feed).rest) (end_fault feed) (either_none (first_line_fault 0 (lines_of feed)) (option_or (rest_fault (length (cut_of feed).lines) (cut_of feed).rest) (end_fault feed)) h) in
    elim (is_too_much feed) as (λ b. is_too_much feed ≡ b → cond b (Some TooMuch) None ≡ None → length feed.bytes < 2 ^ 40) [
      | true ↦ λ e n. absurd (true≢false (ap is_some n))
      | false ↦ λ e n. leb-false (2 ^ 40) (length feed.bytes) e
    ] refl last

-- what a source put at the front of a buffer, which shows as so many of these bytes
take_within : (n : ℕ) (xs ys : List ℕ) → n ≤ length xs → take n (xs ++ ys) ≡ take n xs
take_within n xs ys h = take-append-le n xs ys h

length_take : (n : ℕ) (xs : List ℕ) → n ≤ length xs → n ≡ length (take n xs)
length_take zero xs h = refl
length_take (suc n) [] h = absurd (omega arith)
length_take (suc n) (x ∷ xs) h = ap (λ m. suc m) (length_take n xs (omega arith))

pub record Took (a b : Option (List ℕ)) (n : ℕ) (piece : List ℕ) : Type 0 where
  pub consumed : Consumes a b piece
  pub count : n ≡ length piece

pub piece_took : (a b : Option (List ℕ)) (n len : ℕ) (buf items shown : List ℕ) → n ≤ length buf → n ≤ len → shown ≡ take len (buf ++ drop (length buf) items) → Consumes a b (take n buf)
    → Took a b n (take n shown)
piece_took a b n len buf items shown fits room is taken =
    let same : take n shown ≡ take n buf = ap (λ (x : List ℕ). take n x) is ∙ take-take n len (buf ++ drop (length buf) items) room ∙ take_within n buf (drop (length buf) items) fits in
    record {
      consumed = subst (λ (x : List ℕ). Consumes a b x) (sym same) taken;
      count = length_take n buf fits ∙ ap (λ (x : List ℕ). length x) (sym same);
    }

fed_open : (feed : Feed) (piece : List ℕ) → feed.ended ≡ false → fed_with feed piece ≡ record feed { bytes = feed.bytes ++ piece }
fed_open feed piece e = ap (λ b. cond b feed (record feed { bytes = feed.bytes ++ piece })) e

never_read : (end : FeedEnd) (P : Type 0) → IfReadFailed end ⊥ → IfReadFailed end P
never_read Done P h = tt
never_read (Fault f) P h = tt
never_read Read P h = absurd h
never_read NoMemory P h = tt

read_open : (old new : Input) (feed : Feed) → Consumes old.left new.left feed.bytes → feed.ended ≡ false → IsReadFrom old new feed
read_open old new feed c e = record { bytes = c; end = λ t. absurd (true≢false (sym t ∙ e)) }

-- before the first piece
pub short_first : (v : Issued) (old : Input) → v.known.entries ≡ [] → v.cut ≡ 0 → Publishes NoMemory old old v.known.entries
short_first v old e z =
    let k : IsBookOf v (closed_items no_feed) = no_items v e z in
    let P : List Entry → Type 0 = λ es. IsPrefix es (book true (closed_items no_feed)) in
    record {
      read = no_feed;
      taken = read_open old old no_feed (Consumes-same old.left) refl;
      list = subst P (sym k.entries) (prefix_self (book true (closed_items no_feed)));
      cause = tt;
    }

module _ (intake : IntakeHeld) (v : Issued) (old now : Input) (taken : ℕ) (r : SoFar intake v old now taken) where
  pub still_short : taken < INPUT_BYTES
  still_short = omega (arith, r.counted, fewer r.feed r.good)

  fed_bytes : (piece : List ℕ) → (fed_with r.feed piece).bytes ≡ r.feed.bytes ++ piece
  fed_bytes piece = ap (λ (f : Feed). f.bytes) (fed_open r.feed piece r.going)

  fed_ended : (piece : List ℕ) → (fed_with r.feed piece).ended ≡ false
  fed_ended piece = ap (λ (f : Feed). f.ended) (fed_open r.feed piece r.going) ∙ r.going

  consumed_with : (left : Option (List ℕ)) (piece : List ℕ) → Consumes now.left left piece → Consumes old.left left (fed_with r.feed piece).bytes
  consumed_with left piece c = subst (λ (x : List ℕ). Consumes old.left left x) (sym (fed_bytes piece)) (Consumes-then old.left now.left left r.feed.bytes piece r.consumed c)

  pub goes_on : (intake' : IntakeHeld) (u : Issued) (later : Input) (n : ℕ) (piece : List ℕ) → Took now.left later.left n piece → now.faults ≤ later.faults
      → HasReadPiece (Ok tt) intake' u (fed_with r.feed piece) → SoFar intake' u old later (taken + n)
  goes_on intake' u later n piece t le p = record {
    feed = fed_with r.feed piece;
    counted = omega (arith, r.counted, t.count, ap length (fed_bytes piece), length-append r.feed.bytes piece);
    going = fed_ended piece;
    good = p.1;
    consumed = consumed_with later.left piece t.consumed;
    read_to = p.0;
    later = omega (arith, r.later, le);
  }

  -- Each way out

  pub read_fails : (new : Input) → Consumes old.left new.left r.feed.bytes → Rose now.faults new.faults → Publishes Read old new v.known.entries
  read_fails new c rose = record {
    read = r.feed;
    taken = read_open old new r.feed c r.going;
    list = (r.going, r.good, r.read_to.book_of.entries);
    cause = omega (arith, r.later, rose);
  }

  pub stops : (new : Input) (end : FeedEnd) (intake' : IntakeHeld) (u : Issued) (n : ℕ) (piece : List ℕ) → Took now.left new.left n piece
      → HasReadPiece (Err end) intake' u (fed_with r.feed piece) → Publishes end old new u.known.entries
  stops new end intake' u n piece t p = record {
    read = fed_with r.feed piece;
    taken = read_open old new (fed_with r.feed piece) (consumed_with new.left piece t.consumed) (fed_ended piece);
    list = p.0;
    cause = never_read end (Rose old.faults new.faults) p.1;
  }

  pub ends : (new : Input) (end : FeedEnd) (u : Issued) (n : ℕ) (buf : List ℕ) → n ≡ 0 → Consumes now.left new.left (take n buf) → IsAtEnd new.left
      → HasReadEnd end u r.feed → Publishes end old new u.known.entries
  ends new end u n buf z c t p =
      let none : r.feed.bytes ++ take n buf ≡ p.read.bytes = ap (λ m. r.feed.bytes ++ take m buf) z ∙ append-nil r.feed.bytes ∙ sym p.bytes in
      record {
        read = p.read;
        taken = record { bytes = subst (λ (x : List ℕ). Consumes old.left new.left x) none (Consumes-then old.left now.left new.left r.feed.bytes (take n buf) r.consumed c); end = λ e. t };
        list = p.list;
        cause = never_read end (Rose old.faults new.faults) p.cause;
      }
