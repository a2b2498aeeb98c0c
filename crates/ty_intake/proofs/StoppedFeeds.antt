-- A feed with more bytes, or at its end, after a fault and after the end.
use Rattle.std.proofs.Common.{◌≡◌, ◌≤◌, ◌∙◌, ◌^◌, ap, sym, subst, refl, ℕ, ◌-◌, ◌++◌, ◌||◌, Bool, true, false, not, List, [], length, append-nil, arith, length-append, true≢false, leb-true, le-leb}
use Rattle.std.specs.Prelude.{Option, None, Some, is_some}
use Rattle.std.specs.Bool.{nat_le}
use Rattle.std.proofs.lemmas.List.{take-append-le}
use Rattle.ty_intake.specs.Lines.{Feed, fed_with, ended_now, Cut, cut_lines, last_line, lines_of}
use Rattle.ty_intake.specs.Faults.{feed_fault}
use Rattle.ty_intake.specs.Batches.{items_of, batches_of}
use Rattle.ty_intake.specs.Held.{IntakeHeld, IntakeGoesOn, IntakeStands}
use Rattle.ty_intake.specs.steps.Progress.{behind}
use Rattle.ty_intake.specs.declared.batch.Closed.{Closed}
use Rattle.ty_intake.specs.declared.intake.IntakeFault.{IntakeFault}
use Rattle.ty_intake.proofs.LongerFeeds.{followed, read_part, cut-more, lines-open, lines-ended}
use Rattle.ty_intake.proofs.FaultyFeeds.{fault-told, items-told, batches-told, Shows, by_line, by_rest, by_end, shows, Same, same-line, same-rest, same-last, same-open, same-end}

abbrev pub going : List ℕ → Feed
going bytes = record { bytes = bytes; ended = false }

abbrev pub over : List ℕ → Feed
over bytes = record { bytes = bytes; ended = true }

abbrev pub cut_part : List ℕ → Cut
cut_part bytes = cut_lines (read_part bytes)

abbrev pub is_much : List ℕ → Bool
is_much bytes = nat_le (2 ^ 40) (length bytes)

pub lines-going : (bytes : List ℕ) → lines_of (going bytes) ≡ (cut_part bytes).lines
lines-going bytes = lines-open bytes false refl

-- the fault and the items of another feed are those of this one
pub record Kept (feed next : Feed) (f : IntakeFault) : Type 0 where
  pub fault : feed_fault next ≡ Some f
  pub items : items_of next ≡ items_of feed

kept : (bytes next : List ℕ) (ended : Bool) (ms : List (List ℕ)) (f : IntakeFault) → lines_of (record { bytes = next; ended = ended }) ≡ ms
    → Same (cut_part bytes).lines ms (length (cut_part next).lines) (cut_part next).rest (is_much next) f → Kept (going bytes) (record { bytes = next; ended = ended }) f
kept bytes next ended ms f e s = record {
  fault = fault-told next ended ms e ∙ s.fault;
  items = items-told (record { bytes = next; ended = ended }) ms e ∙ s.items ∙ sym (items-told (going bytes) (cut_part bytes).lines (lines-going bytes));
}

shown : (bytes : List ℕ) (f : IntakeFault) → feed_fault (going bytes) ≡ Some f → Shows (cut_part bytes).lines (length (cut_part bytes).lines) (cut_part bytes).rest (is_much bytes) f
shown bytes f e = shows (cut_part bytes).lines (length (cut_part bytes).lines) (cut_part bytes).rest (is_much bytes) f (sym (fault-told bytes false (cut_part bytes).lines (lines-going bytes)) ∙ e)

-- ---- more bytes

-- where the lines are those of c and then those of d
fed-then : (c d n : Cut) (much much_then : Bool) (f : IntakeFault) → n ≡ followed c d → (much ≡ true → (n ≡ c) × (much_then ≡ true)) → Shows c.lines (length c.lines) c.rest much f
    → Same c.lines n.lines (length n.lines) n.rest much_then f
fed-then c d n much much_then f e m (by_line p) =
    let P : Cut → Type 0 = λ k. Same c.lines k.lines (length k.lines) k.rest much_then f in
    subst P (sym e) (same-line c.lines (behind c.rest d.lines d.rest).lines (length (followed c d).lines) (followed c d).rest much_then f p)
fed-then c d n much much_then f e m (by_rest p h q) =
    let P : Cut → Type 0 = λ k. Same c.lines k.lines (length k.lines) k.rest much_then f in
    subst P (sym e) (same-rest c.lines c.rest d.lines d.rest much_then f p h q)
fed-then c d n much much_then f e m (by_end p q t r) =
    let P : Cut → Type 0 = λ k. Same c.lines k.lines (length k.lines) k.rest much_then f in
    subst P (sym (m t).0) (same-end c.lines (length c.lines) c.rest much_then f p q (m t).1 r)

much-more : (bytes more : List ℕ) → is_much bytes ≡ true → (cut_part (bytes ++ more) ≡ cut_part bytes) × (is_much (bytes ++ more) ≡ true)
much-more bytes more t =
    let h : 2 ^ 40 ≤ length bytes = leb-true (2 ^ 40) (length bytes) t in (
      ap cut_lines (take-append-le (2 ^ 40 - 1) bytes more (omega (arith, h))),
      le-leb (2 ^ 40) (length (bytes ++ more)) (omega (arith, h, length-append bytes more)),
    )

pub fed-kept : (bytes more : List ℕ) (f : IntakeFault) → feed_fault (going bytes) ≡ Some f → Kept (going bytes) (going (bytes ++ more)) f
fed-kept bytes more f e =
    let x = cut-more bytes more in
    kept bytes (bytes ++ more) false (cut_part (bytes ++ more)).lines f (lines-going (bytes ++ more))
    (fed-then (cut_part bytes) x.0 (cut_part (bytes ++ more)) (is_much bytes) (is_much (bytes ++ more)) f x.1 (much-more bytes more) (shown bytes f e))

-- ---- the end

lines-over : (bytes : List ℕ) → is_much bytes ≡ true → lines_of (over bytes) ≡ (cut_part bytes).lines
lines-over bytes t = lines-open bytes true (ap not t)

pub over-kept : (bytes : List ℕ) (f : IntakeFault) → feed_fault (going bytes) ≡ Some f → Kept (going bytes) (over bytes) f
over-kept bytes f e =
    let c : Cut = cut_part bytes in
    let n : ℕ = length c.lines in
    elim (is_much bytes) as (λ v. is_much bytes ≡ v → Kept (going bytes) (over bytes) f) [
      | true ↦ λ t. elim (shown bytes f e) [
        | by_line p ↦
            let P : List (List ℕ) → Type 0 = λ ms. Same c.lines ms n c.rest (is_much bytes) f in
            kept bytes bytes true c.lines f (lines-over bytes t) (subst P (append-nil c.lines) (same-line c.lines [] n c.rest (is_much bytes) f p))
        | by_rest p h q ↦ kept bytes bytes true c.lines f (lines-over bytes t) (same-open c.lines n c.rest (is_much bytes) f p h q)
        | by_end p q m r ↦ kept bytes bytes true c.lines f (lines-over bytes t) (same-end c.lines n c.rest (is_much bytes) f p q m r)
      ]
      | false ↦ λ t. elim (shown bytes f e) [
        | by_line p ↦ kept bytes bytes true (c.lines ++ last_line true c.rest) f (lines-ended bytes t) (same-line c.lines (last_line true c.rest) n c.rest (is_much bytes) f p)
        | by_rest p h q ↦ kept bytes bytes true (c.lines ++ last_line true c.rest) f (lines-ended bytes t) (same-last c.lines c.rest (is_much bytes) f p h q)
        | by_end p q m r ↦ absurd (true≢false (sym m ∙ t))
      ]
    ] refl

-- ---- what a call answers then

pub record Answers (new : IntakeHeld) (feed next : Feed) (closed : List Closed) (fault : Option IntakeFault) : Type 0 where
  pub stands : IntakeStands new next
  pub batched : batches_of next ≡ batches_of feed ++ closed
  pub shown : fault ≡ feed_fault next

kept-batches : (feed next : Feed) (f : IntakeFault) → feed_fault feed ≡ Some f → Kept feed next f → batches_of next ≡ batches_of feed ++ []
kept-batches feed next f e k =
    batches-told next (items_of feed) f k.fault k.items ∙ sym (batches-told feed (items_of feed) f e refl) ∙ sym (append-nil (batches_of feed))

pub goes-over : (o : Option IntakeFault) (v : IntakeHeld) (feed : Feed) → IntakeGoesOn o true v feed
goes-over None v feed = tt
goes-over (Some f) v feed = tt

goes-fault : (o : Option IntakeFault) (f : IntakeFault) (b : Bool) (v : IntakeHeld) (feed : Feed) → o ≡ Some f → IntakeGoesOn o b v feed
goes-fault None f b v feed e = cc
goes-fault (Some g) f b v feed e = tt

kept-answers : (v : IntakeHeld) (feed next : Feed) (f : IntakeFault) → v.spent ≡ false → v.fault ≡ Some f → v.ended ≡ next.ended → feed_fault feed ≡ Some f → Kept feed next f → Answers v feed next [] v.fault
kept-answers v feed next f s w n e k = record {
  stands = record { unspent = s; fault = w ∙ sym k.fault; ended = n; goes_on = goes-fault v.fault f v.ended v next w };
  batched = kept-batches feed next f e k;
  shown = w ∙ sym k.fault;
}

same-answers : (v : IntakeHeld) (feed : Feed) → IntakeStands v feed → Answers v feed feed [] v.fault
same-answers v feed h = record { stands = h; batched = sym (append-nil (batches_of feed)); shown = h.fault }

or-right : (a b : Bool) → a ≡ false → (a || b) ≡ true → b ≡ true
or-right true b e h = absurd (true≢false e)
or-right false b e h = h

pub has-fault : (o : Option IntakeFault) → is_some o ≡ true → (f : IntakeFault) × (o ≡ Some f)
has-fault None e = cc
has-fault (Some f) e = (f, refl)

fed-going : (v : IntakeHeld) (bytes piece : List ℕ) → IntakeStands v (going bytes) → (v.ended || is_some v.fault) ≡ true → Answers v (going bytes) (going (bytes ++ piece)) [] v.fault
fed-going v bytes piece h e =
    let w = has-fault v.fault (or-right v.ended (is_some v.fault) h.ended e) in
    let shows : feed_fault (going bytes) ≡ Some w.0 = sym h.fault ∙ w.1 in
    kept-answers v (going bytes) (going (bytes ++ piece)) w.0 h.unspent w.1 h.ended shows (fed-kept bytes piece w.0 shows)

over-going : (v : IntakeHeld) (bytes : List ℕ) → IntakeStands v (going bytes) → (v.ended || is_some v.fault) ≡ true → Answers (record v { ended = true }) (going bytes) (over bytes) [] v.fault
over-going v bytes h e =
    let w = has-fault v.fault (or-right v.ended (is_some v.fault) h.ended e) in
    let shows : feed_fault (going bytes) ≡ Some w.0 = sym h.fault ∙ w.1 in
    kept-answers (record v { ended = true }) (going bytes) (over bytes) w.0 h.unspent w.1 refl shows (over-kept bytes w.0 shows)

fed-by : (v : IntakeHeld) (bytes piece : List ℕ) (ended : Bool) → IntakeStands v (record { bytes = bytes; ended = ended }) → (v.ended || is_some v.fault) ≡ true
    → Answers v (record { bytes = bytes; ended = ended }) (fed_with (record { bytes = bytes; ended = ended }) piece) [] v.fault
fed-by v bytes piece true h e = same-answers v (over bytes) h
fed-by v bytes piece false h e = fed-going v bytes piece h e

over-by : (v : IntakeHeld) (bytes : List ℕ) (ended : Bool) → IntakeStands v (record { bytes = bytes; ended = ended }) → (v.ended || is_some v.fault) ≡ true
    → Answers (record v { ended = true }) (record { bytes = bytes; ended = ended }) (over bytes) [] v.fault
over-by v bytes true h e = record {
  stands = record { unspent = h.unspent; fault = h.fault; ended = refl; goes_on = goes-over v.fault (record v { ended = true }) (over bytes) };
  batched = sym (append-nil (batches_of (over bytes)));
  shown = h.fault;
}
over-by v bytes false h e = over-going v bytes h e

pub fed-done : (v : IntakeHeld) (feed : Feed) (piece : List ℕ) → IntakeStands v feed → (v.ended || is_some v.fault) ≡ true → Answers v feed (fed_with feed piece) [] v.fault
fed-done v feed piece h e = fed-by v feed.bytes piece feed.ended h e

pub end-done : (v : IntakeHeld) (feed : Feed) → IntakeStands v feed → (v.ended || is_some v.fault) ≡ true → Answers (record v { ended = true }) feed (ended_now feed) [] v.fault
end-done v feed h e = over-by v feed.bytes feed.ended h e

-- ---- that nothing more comes

pub or-left : (a b : Bool) → a ≡ true → (a || b) ≡ true
or-left true b e = refl
or-left false b e = absurd (true≢false (sym e))

pub or-last : (a b : Bool) → b ≡ true → (a || b) ≡ true
or-last true b e = refl
or-last false b e = e
