-- A feed that goes on: one more piece, and the end.
use Rattle.std.proofs.Common.{◌≡◌, ◌≤◌, ◌<◌, ◌∙◌, ◌^◌, ap, sym, subst, refl, ℕ, ◌+◌, ◌-◌, ◌++◌, ◌==◌, Bool, true, false, not, List, [], ◌∷◌, length, drop, min, inl, inr, append_assoc, append-nil, arith, length-append, take_all, true≢false, leb-false, le-leb}
use borrow.Author.Tests.{lt-leb}
use Rattle.std.specs.Prelude.{Option, None, Some, is_some, ◌⊎◌}
use Rattle.std.specs.List.{list_all}
use Rattle.std.specs.Option.{option_or}
use Rattle.std.proofs.lemmas.Bool.Decides.{nat_tests}
use Rattle.ty_base.specs.declared.item.Item.{Item}
use Rattle.ty_intake.specs.Lines.{Feed, fed_with, ended_now, Cut, cut_lines, cut_of, last_line, lines_of}
use Rattle.ty_intake.specs.Faults.{first_line_fault, rest_fault, feed_fault}
use Rattle.ty_intake.specs.Batches.{items_of, batches, batches_of, batch_fits}
use Rattle.ty_intake.specs.Held.{IntakeHeld, IntakeIsOpen, IntakeGoesOn}
use Rattle.ty_intake.specs.steps.Progress.{items_in, behind, ProgressFollows, IsCutRead, IsEnded, IsFrontRead, IsPieceFed, IsFinished, fault_or_too_much, progress_of}
use Rattle.ty_intake.specs.declared.batch.Closed.{Closed}
use Rattle.ty_intake.specs.declared.progress.Progress.{Progress}
use Rattle.ty_intake.specs.declared.intake.IntakeFault.{IntakeFault}
use Rattle.ty_intake.proofs.Lines.{cut-length}
use Rattle.ty_intake.proofs.Faults.{fault-then, items-then}
use Rattle.ty_intake.proofs.LongerFeeds.{followed, read_part, part-all, cut-append, lines-ended}
use Rattle.ty_intake.proofs.FaultyFeeds.{told, much_fault, fault-told, items-told}
use Rattle.ty_intake.proofs.StoppedFeeds.{going, over, cut_part, is_much, lines-going}

-- ---- a feed without a fault

-- none of the parts shows a fault
pub record Clear (ls : List (List ℕ)) (n : ℕ) (rest : List ℕ) (much : Bool) : Type 0 where
  pub by_line : first_line_fault 0 ls ≡ None
  pub by_rest : rest_fault n rest ≡ None
  pub by_end : much ≡ false

both-none : (o p : Option IntakeFault) → option_or o p ≡ None → (o ≡ None) × (p ≡ None)
both-none None p e = (refl, e)
both-none (Some f) p e = cc

not-much : (b : Bool) → much_fault b ≡ None → b ≡ false
unfolding much_fault
not-much true e = cc
not-much false e = refl

clear : (ls : List (List ℕ)) (n : ℕ) (rest : List ℕ) (much : Bool) → told ls n rest much ≡ None → Clear ls n rest much
unfolding told
clear ls n rest much e =
    let p = both-none (first_line_fault 0 ls) (option_or (rest_fault n rest) (much_fault much)) e in
    let q = both-none (rest_fault n rest) (much_fault much) p.1 in
    record { by_line = p.0; by_rest = q.0; by_end = not-much much q.1 }

pub clear-of : (bytes : List ℕ) → feed_fault (going bytes) ≡ None → Clear (cut_part bytes).lines (length (cut_part bytes).lines) (cut_part bytes).rest (is_much bytes)
clear-of bytes e =
    clear (cut_part bytes).lines (length (cut_part bytes).lines) (cut_part bytes).rest (is_much bytes) (sym (fault-told bytes false (cut_part bytes).lines (lines-going bytes)) ∙ e)

short-of : (bytes : List ℕ) → is_much bytes ≡ false → length bytes < 2 ^ 40
short-of bytes e = leb-false (2 ^ 40) (length bytes) e

pub cut-is : (bytes : List ℕ) (ended : Bool) → cut_of (record { bytes = bytes; ended = ended }) ≡ cut_part bytes
unfolding cut_of
cut-is bytes ended = refl

batches-going : (bytes : List ℕ) → batches_of (going bytes) ≡ batches false (items_of (going bytes))
unfolding batches_of
batches-going bytes = refl

-- what is read so far follows the feed
follows-open : (v : IntakeHeld) (bytes : List ℕ) → IntakeIsOpen v (going bytes) → ProgressFollows (batches_of (going bytes)) (items_of (going bytes)) (progress_of v [])
follows-open v bytes h = record {
  at = h.cut;
  later = h.pending;
  batched = sym (batches-going bytes) ∙ sym (append-nil (batches_of (going bytes)));
}

-- ---- one more piece

pub record Gives (new : IntakeHeld) (feed next : Feed) (closed : List Closed) : Type 0 where
  pub shown : new.fault ≡ feed_fault next
  pub batched : batches_of next ≡ batches_of feed ++ closed
  pub goes_on : IntakeGoesOn new.fault false new next

goes-open : (o : Option IntakeFault) (v : IntakeHeld) (feed : Feed) → (o ≡ None → IntakeIsOpen v feed) → IntakeGoesOn o false v feed
goes-open None v feed h = h refl
goes-open (Some f) v feed h = tt

ended-or : (o p : Option IntakeFault) (b : Bool) → option_or o (option_or p (much_fault b)) ≡ fault_or_too_much b (option_or o p)
unfolding much_fault
ended-or None None true = refl
ended-or None None false = refl
ended-or None (Some g) b = refl
ended-or (Some g) p b = refl

-- where the lines are those of c and then those of d
told-then : (c d n : Cut) (k : ℕ) (more : Bool) (inner fault new : Option IntakeFault) → n ≡ record { lines = c.lines ++ d.lines; rest = d.rest } → first_line_fault 0 c.lines ≡ None
    → k ≡ length c.lines → inner ≡ first_line_fault k d.lines → fault ≡ option_or inner (rest_fault (k + length d.lines) d.rest) → new ≡ fault_or_too_much more fault
    → told n.lines (length n.lines) n.rest more ≡ new
unfolding told much_fault
told-then c d n k more inner fault new e p q i f w =
    let z : 0 + length c.lines ≡ k = omega (arith, q) in
    let long : length (c.lines ++ d.lines) ≡ k + length d.lines = length-append c.lines d.lines ∙ omega (arith, q) in
    let first : first_line_fault 0 (c.lines ++ d.lines) ≡ inner = fault-then 0 c.lines d.lines p ∙ ap (λ j. first_line_fault j d.lines) z ∙ sym i in
    ap (λ (m : Cut). option_or (first_line_fault 0 m.lines) (option_or (rest_fault (length m.lines) m.rest) (much_fault more))) e
    ∙ ap (λ (o : Option IntakeFault). option_or o (option_or (rest_fault (length (c.lines ++ d.lines)) d.rest) (much_fault more))) first
    ∙ ap (λ j. option_or inner (option_or (rest_fault j d.rest) (much_fault more))) long
    ∙ ended-or inner (rest_fault (k + length d.lines) d.rest) more
    ∙ ap (fault_or_too_much more) (sym f)
    ∙ sym w

-- the front of a piece, up to byte number 2^40, is read
pub record Fed (bytes front back piece : List ℕ) (more : Bool) : Type 0 where
  pub whole : piece ≡ front ++ back
  pub short : length bytes + length front < 2 ^ 40
  pub full : more ≡ true → (length bytes + length front ≡ 2 ^ 40 - 1) × (0 < length back)
  pub none : more ≡ false → length back ≡ 0

part-fed : (bytes front back piece : List ℕ) (more : Bool) → Fed bytes front back piece more → read_part (bytes ++ piece) ≡ bytes ++ front
part-fed bytes front back piece more h =
    let whole : bytes ++ piece ≡ (bytes ++ front) ++ back = ap (λ (l : List ℕ). bytes ++ l) h.whole ∙ sym (append_assoc bytes front back) in
    let long : length (bytes ++ front) ≡ length bytes + length front = length-append bytes front in
    ap read_part whole ∙ part-all (bytes ++ front) back (omega (arith, h.short)) (by more refl)
  where
    by : (b : Bool) → more ≡ b → (length back ≡ 0) ⊎ (length (bytes ++ front) ≡ 2 ^ 40 - 1)
    by true e = inr (omega (arith, (h.full e).0, length-append bytes front))
    by false e = inl (h.none e)

much-fed : (bytes front back piece : List ℕ) (more : Bool) → Fed bytes front back piece more → is_much (bytes ++ piece) ≡ more
much-fed bytes front back piece more h = by more refl
  where
    long : length (bytes ++ piece) ≡ length bytes + (length front + length back)
    long = length-append bytes piece ∙ ap (λ k. length bytes + k) (ap length h.whole ∙ length-append front back)

    by : (b : Bool) → more ≡ b → is_much (bytes ++ piece) ≡ b
    by true e = le-leb (2 ^ 40) (length (bytes ++ piece)) (omega (arith, long, (h.full e).0, (h.full e).1))
    by false e = lt-leb (2 ^ 40) (length (bytes ++ piece)) (omega (arith, long, h.short, h.none e))

ended-none : (b : Bool) (o : Option IntakeFault) → fault_or_too_much b o ≡ None → (b ≡ false) × (o ≡ None)
ended-none true None e = cc
ended-none false None e = (refl, refl)
ended-none b (Some f) e = cc

-- what is kept once the front is read, with the fault of what is behind it
pub record Marked (mid new : IntakeHeld) (more : Bool) : Type 0 where
  pub rest : new.rest ≡ mid.rest
  pub lines : new.lines ≡ mid.lines
  pub pending : new.pending ≡ mid.pending
  pub cut : new.cut ≡ mid.cut
  pub seen : new.seen ≡ mid.seen
  pub ended : new.ended ≡ mid.ended
  pub spent : new.spent ≡ mid.spent
  pub fault : new.fault ≡ fault_or_too_much more mid.fault

module _ (old mid new : IntakeHeld) (bytes front back piece : List ℕ) (closed : List Closed) (more : Bool) (whole : Fed bytes front back piece more)
    (sound : feed_fault (going bytes) ≡ None) (i : IntakeIsOpen old (going bytes)) (t : IsFrontRead old mid front closed) (m : Marked mid new more) where
  abbrev c : Cut
  c = cut_part bytes

  abbrev f : Cut
  f = cut_lines front

  abbrev d : Cut
  d = behind c.rest f.lines f.rest

  abbrev n : Cut
  n = cut_part (bytes ++ piece)

  abbrev now : Progress
  now = t.now

  parts : Clear c.lines (length c.lines) c.rest (is_much bytes)
  parts = clear-of bytes sound

  old_rest : old.rest ≡ c.rest
  old_rest = i.rest ∙ ap (λ (k : Cut). k.rest) (cut-is bytes false)

  old_lines : old.lines ≡ length c.lines
  old_lines = i.lines ∙ ap (λ (k : Cut). length k.lines) (cut-is bytes false)

  moved : IsCutRead d mid.rest (progress_of old []) now mid.fault
  moved = let P : List ℕ → Type 0 = λ r. IsCutRead (behind r f.lines f.rest) mid.rest (progress_of old []) now mid.fault in subst P old_rest t.moved

  n_is : n ≡ record { lines = c.lines ++ d.lines; rest = d.rest }
  n_is =
      let e : bytes ≡ read_part bytes = sym (take_all (2 ^ 40 - 1) bytes (omega (arith, short-of bytes parts.by_end))) in
      ap cut_lines (part-fed bytes front back piece more whole) ∙ cut-append bytes front ∙ ap (λ (b : List ℕ). followed (cut_lines b) f) e

  shown : new.fault ≡ feed_fault (going (bytes ++ piece))
  shown =
      sym (
      fault-told (bytes ++ piece) false n.lines (lines-going (bytes ++ piece))
      ∙ ap (told n.lines (length n.lines) n.rest) (much-fed bytes front back piece more whole)
      ∙ told-then c d n old.lines more moved.inner mid.fault new.fault n_is parts.by_line old_lines moved.read.first moved.told m.fault)

  items : items_of (going (bytes ++ piece)) ≡ items_of (going bytes) ++ items_in d.lines
  items =
      items-told (going (bytes ++ piece)) n.lines (lines-going (bytes ++ piece))
      ∙ ap (λ (k : Cut). items_in k.lines) n_is
      ∙ items-then 0 c.lines d.lines parts.by_line
      ∙ sym (ap (λ (xs : List Item). xs ++ items_in d.lines) (items-told (going bytes) c.lines (lines-going bytes)))

  follows : ProgressFollows (batches_of (going bytes)) (items_of (going (bytes ++ piece))) now
  follows =
      let P : List Item → Type 0 = λ xs. ProgressFollows (batches_of (going bytes)) xs now in
      subst P (sym items) (moved.read.follows (batches_of (going bytes)) (items_of (going bytes)) (follows-open old bytes i))

  batched : batches_of (going (bytes ++ piece)) ≡ batches_of (going bytes) ++ closed
  batched = batches-going (bytes ++ piece) ∙ follows.batched ∙ ap (λ (bs : List Closed). batches_of (going bytes) ++ bs) (sym t.batched)

  opens : new.fault ≡ None → IntakeIsOpen new (going (bytes ++ piece))
  opens e =
      let w : (more ≡ false) × (mid.fault ≡ None) = ended-none more mid.fault (sym m.fault ∙ e) in
      let inner : moved.inner ≡ None = (both-none moved.inner _ (sym moved.told ∙ w.1)).0 in
      let here : n ≡ cut_of (going (bytes ++ piece)) = sym (cut-is (bytes ++ piece) false) in
      record {
        rest = m.rest ∙ moved.tail w.1 ∙ ap (λ (k : Cut). k.rest) (sym n_is ∙ here);
        lines = m.lines ∙ t.lines ∙ moved.read.count inner ∙ ap (λ k. k + length d.lines) old_lines ∙ sym (length-append c.lines d.lines) ∙ ap (λ (k : Cut). length k.lines) (sym n_is ∙ here);
        seen = m.seen ∙ t.seen ∙ omega (arith, i.seen, length-append bytes piece, ap length whole.whole, length-append front back, whole.none w.0);
        cut = m.cut ∙ t.cut ∙ follows.at;
        pending = m.pending ∙ t.pending ∙ follows.later ∙ ap (λ k. drop k (items_of (going (bytes ++ piece)))) (sym (m.cut ∙ t.cut));
      }

  pub gives-fed : Gives new (going bytes) (going (bytes ++ piece)) closed
  gives-fed = record { shown = shown; batched = batched; goes_on = goes-open new.fault new (going (bytes ++ piece)) opens }

-- ---- the end

or-none : (o : Option IntakeFault) → option_or o None ≡ o
or-none None = refl
or-none (Some f) = refl

told-last : (ls ms : List (List ℕ)) (rest : List ℕ) (much : Bool) → Clear ls (length ls) rest much → told (ls ++ ms) (length ls) rest much ≡ first_line_fault (length ls) ms
unfolding told much_fault
told-last ls ms rest much h =
    let z : 0 + length ls ≡ length ls = omega arith in
    ap (λ (o : Option IntakeFault). option_or (first_line_fault 0 (ls ++ ms)) (option_or o (much_fault much))) h.by_rest
    ∙ ap (λ (b : Bool). option_or (first_line_fault 0 (ls ++ ms)) (much_fault b)) h.by_end
    ∙ or-none (first_line_fault 0 (ls ++ ms))
    ∙ fault-then 0 ls ms h.by_line
    ∙ ap (λ k. first_line_fault k ms) z

pub record Ends (fault : Option IntakeFault) (feed next : Feed) (closed : List Closed) : Type 0 where
  pub shown : fault ≡ feed_fault next
  pub batched : batches_of next ≡ batches_of feed ++ closed

batches-over : (bytes : List ℕ) (fault : Option IntakeFault) (all : List Item) → feed_fault (over bytes) ≡ fault → items_of (over bytes) ≡ all → batches_of (over bytes) ≡ batches (not (is_some fault)) all
unfolding batches_of
batches-over bytes fault all e i =
    ap (λ (o : Option IntakeFault). batches (not (is_some o)) (items_of (over bytes))) e ∙ ap (batches (not (is_some fault))) i

pub gives-end : (old : IntakeHeld) (bytes : List ℕ) (later : Progress) (fault : Option IntakeFault) → feed_fault (going bytes) ≡ None → IntakeIsOpen old (going bytes) → IsEnded old.rest (progress_of old []) later fault
    → Ends fault (going bytes) (over bytes) later.closed
gives-end old bytes later fault e i h =
    let c : Cut = cut_part bytes in
    let parts : Clear c.lines (length c.lines) c.rest (is_much bytes) = clear-of bytes e in
    let rest : old.rest ≡ c.rest = i.rest ∙ ap (λ (k : Cut). k.rest) (cut-is bytes false) in
    let count : old.lines ≡ length c.lines = i.lines ∙ ap (λ (k : Cut). length k.lines) (cut-is bytes false) in
    let last : List (List ℕ) = last_line true c.rest in
    let lines : lines_of (over bytes) ≡ c.lines ++ last = lines-ended bytes parts.by_end in
    let shown : feed_fault (over bytes) ≡ fault =
    fault-told bytes true (c.lines ++ last) lines
    ∙ told-last c.lines last c.rest (is_much bytes) parts
    ∙ ap (λ (k : ℕ). first_line_fault k last) (sym count)
    ∙ ap (λ (r : List ℕ). first_line_fault old.lines (last_line true r)) (sym rest)
    ∙ sym h.first in
    let items : items_of (over bytes) ≡ items_of (going bytes) ++ items_in (last_line true old.rest) =
    items-told (over bytes) (c.lines ++ last) lines
    ∙ items-then 0 c.lines last parts.by_line
    ∙ ap (λ (xs : List Item). xs ++ items_in last) (sym (items-told (going bytes) c.lines (lines-going bytes)))
    ∙ ap (λ (r : List ℕ). items_of (going bytes) ++ items_in (last_line true r)) (sym rest) in
    record {
      shown = sym shown;
      batched = batches-over bytes fault (items_of (going bytes) ++ items_in (last_line true old.rest)) shown items ∙ h.batched (batches_of (going bytes)) (items_of (going bytes)) (follows-open old bytes i);
    }

-- ---- for every feed that goes on

fed-by : (old mid new : IntakeHeld) (front back piece : List ℕ) (closed : List Closed) (more : Bool) → piece ≡ front ++ back → old.seen + length front < 2 ^ 40
    → (more ≡ true → (old.seen + length front ≡ 2 ^ 40 - 1) × (0 < length back)) → (more ≡ false → length back ≡ 0) → IsFrontRead old mid front closed → Marked mid new more
    → (bytes : List ℕ) (ended : Bool) → ended ≡ false → feed_fault (record { bytes = bytes; ended = ended }) ≡ None → IntakeIsOpen old (record { bytes = bytes; ended = ended })
    → Gives new (record { bytes = bytes; ended = ended }) (fed_with (record { bytes = bytes; ended = ended }) piece) closed
fed-by old mid new front back piece closed more whole short full none t m bytes true e s i = absurd (true≢false e)
fed-by old mid new front back piece closed more whole short full none t m bytes false e s i =
    gives-fed old mid new bytes front back piece closed more
    (record { whole = whole; short = omega (arith, short, i.seen); full = λ v. (omega (arith, (full v).0, i.seen), (full v).1); none = none }) s i t m

pub fed : (old mid new : IntakeHeld) (front back piece : List ℕ) (closed : List Closed) (more : Bool) → piece ≡ front ++ back → old.seen + length front < 2 ^ 40
    → (more ≡ true → (old.seen + length front ≡ 2 ^ 40 - 1) × (0 < length back)) → (more ≡ false → length back ≡ 0) → IsFrontRead old mid front closed → Marked mid new more
    → IsPieceFed old new piece closed
fed old mid new front back piece closed more whole short full none t m = record {
  ended = m.ended ∙ t.ended;
  spent = m.spent ∙ t.spent;
  fits = ap (list_all batch_fits) t.batched ∙ t.moved.read.sound.closed_fit;
  told = λ feed e s i. (fed-by old mid new front back piece closed more whole short full none t m feed.bytes feed.ended e s i).shown;
  batched = λ feed e s i. (fed-by old mid new front back piece closed more whole short full none t m feed.bytes feed.ended e s i).batched;
  goes_on = λ feed e s i. (fed-by old mid new front back piece closed more whole short full none t m feed.bytes feed.ended e s i).goes_on;
}

end-by : (old : IntakeHeld) (later : Progress) (fault : Option IntakeFault) → IsEnded old.rest (progress_of old []) later fault
    → (bytes : List ℕ) (ended : Bool) → ended ≡ false → feed_fault (record { bytes = bytes; ended = ended }) ≡ None → IntakeIsOpen old (record { bytes = bytes; ended = ended })
    → Ends fault (record { bytes = bytes; ended = ended }) (ended_now (record { bytes = bytes; ended = ended })) later.closed
end-by old later fault h bytes true e s i = absurd (true≢false e)
end-by old later fault h bytes false e s i = gives-end old bytes later fault s i h

pub finished : (old new : IntakeHeld) (later : Progress) → IsEnded old.rest (progress_of old []) later new.fault → new.spent ≡ old.spent → new.ended ≡ true → IsFinished old new later.closed
finished old new later h s e = record {
  spent = s;
  ended = e;
  fits = h.closed_fit;
  told = λ feed w p i. (end-by old later new.fault h feed.bytes feed.ended w p i).shown;
  batched = λ feed w p i. (end-by old later new.fault h feed.bytes feed.ended w p i).batched;
}

-- ---- the limit

pub more-true : (e : Bool) (k f s p : ℕ) → e ≡ (k == 0) → f ≡ min p (2 ^ 40 - 1 - s) → k + f ≡ p → s < 2 ^ 40 → not e ≡ true → (s + f ≡ 2 ^ 40 - 1) × (0 < k)
more-true true k f s p e m l h n = absurd (true≢false (sym n))
more-true false k f s p e m l h n = let z : 0 < k = grind (arith, nat_tests) in (omega arith, z)

pub more-false : (e : Bool) (k : ℕ) → e ≡ (k == 0) → not e ≡ false → k ≡ 0
more-false true k e n = grind (arith, nat_tests)
more-false false k e n = absurd (true≢false n)

behind-length : (rest : List ℕ) (ls : List (List ℕ)) (tail : List ℕ) → length (behind rest ls tail).lines ≡ length ls
behind-length rest [] tail = refl
behind-length rest (l ∷ ls) tail = refl

pub front-bounds : (rest front kept : List ℕ) (old new : Progress) (fault : Option IntakeFault) (seen : ℕ)
    → IsCutRead (behind rest (cut_lines front).lines (cut_lines front).rest) kept old new fault → old.lines ≤ seen → new.lines ≤ seen + length front
front-bounds rest front kept old new fault seen m h =
    omega (arith, m.read.most, behind-length rest (cut_lines front).lines (cut_lines front).rest, cut-length front)
