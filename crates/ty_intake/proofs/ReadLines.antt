-- Lines that are read, one after another.
use Rattle.std.proofs.Common.{◌≡◌, ◌<◌, ◌∙◌, ap, sym, subst, refl, ℕ, ◌+◌, ◌++◌, ◌||◌, ◌==◌, true, false, not, List, [], ◌∷◌, length, drop, append_assoc, append-nil, arith, length-append}
use Rattle.std.specs.Prelude.{Option, None, Some}
use Rattle.std.specs.List.{cons_option}
use Rattle.ty_base.specs.declared.item.Item.{Item}
use Rattle.ty_base.specs.Feed.{is_update}
use Rattle.ty_intake.specs.Line.{item_by}
use Rattle.ty_intake.specs.Faults.{line_fault, first_line_fault}
use Rattle.ty_intake.specs.Batches.{batches}
use Rattle.ty_intake.specs.steps.Progress.{items_in, ProgressFollows, IsSoundProgress, AreLinesRead}
use Rattle.ty_intake.specs.declared.batch.Closed.{Closed}
use Rattle.ty_intake.specs.declared.progress.Progress.{Progress}
use Rattle.ty_intake.specs.declared.intake.IntakeFault.{IntakeFault}
use Rattle.ty_intake.proofs.Faults.{fault-nil, fault-one, fault-more, fault-then, items-one, items-bad, items-then, items-stop}
use Rattle.ty_intake.proofs.Closings.{Pends, closes_at_end, closes-is, pends-stay, pends-close, batch-is, batches-stay}

-- ---- one item

pub pends : (earlier : List Closed) (items : List Item) (r : Progress) → ProgressFollows earlier items r → Pends items r.cut r.pending
pends earlier items r h = record { at = h.at; later = h.later }

-- how a progress takes an item, where a batch closes behind it or not
pub item-stays : (old new : Progress) (x : Item) → length old.pending < 100 → (not (is_update x) || (length old.pending + 1 == 100)) ≡ false
    → new.cut ≡ old.cut → new.pending ≡ old.pending ++ x ∷ [] → new.closed ≡ old.closed
    → (earlier : List Closed) (items : List Item) → ProgressFollows earlier items old → ProgressFollows earlier (items ++ x ∷ []) new
item-stays old new x few e c p b earlier items h =
    let stays : closes_at_end (items ++ x ∷ []) ≡ false = closes-is items x old.cut old.pending (pends earlier items old h) few ∙ e in
    let now : Pends (items ++ x ∷ []) old.cut (old.pending ++ x ∷ []) = pends-stay items x old.cut old.pending (pends earlier items old h) stays in
    record {
      at = c ∙ now.at;
      later = p ∙ now.later ∙ ap (λ k. drop k (items ++ x ∷ [])) (sym c);
      batched = batches-stay items x stays ∙ h.batched ∙ ap (λ bs. earlier ++ bs) (sym b);
    }

pub item-closes : (old new : Progress) (x : Item) → length old.pending < 100 → (not (is_update x) || (length old.pending + 1 == 100)) ≡ true
    → new.cut ≡ old.cut + length (old.pending ++ x ∷ []) → new.pending ≡ []
    → new.closed ≡ old.closed ++ record { items = old.pending ++ x ∷ []; cut = old.cut + length (old.pending ++ x ∷ []) } ∷ []
    → (earlier : List Closed) (items : List Item) → ProgressFollows earlier items old → ProgressFollows earlier (items ++ x ∷ []) new
item-closes old new x few e c p b earlier items h =
    let long : length (old.pending ++ x ∷ []) ≡ length old.pending + 1 = length-append old.pending (x ∷ []) in
    let closes : closes_at_end (items ++ x ∷ []) ≡ true = closes-is items x old.cut old.pending (pends earlier items old h) few ∙ e in
    let now : Pends (items ++ x ∷ []) (old.cut + (length old.pending + 1)) [] = pends-close items x old.cut old.pending (pends earlier items old h) closes in
    let here : old.cut + (length old.pending + 1) ≡ new.cut = ap (λ k. old.cut + k) (sym long) ∙ sym c in
    record {
      at = sym here ∙ now.at;
      later = p ∙ now.later ∙ ap (λ k. drop k (items ++ x ∷ [])) here;
      batched =
          batch-is items x old.cut old.pending (pends earlier items old h) closes
          ∙ ap (λ k. batches false items ++ record { items = old.pending ++ x ∷ []; cut = k } ∷ []) (here ∙ c)
          ∙ ap (λ bs. bs ++ record { items = old.pending ++ x ∷ []; cut = old.cut + length (old.pending ++ x ∷ []) } ∷ []) h.batched
          ∙ append_assoc earlier old.closed (record { items = old.pending ++ x ∷ []; cut = old.cut + length (old.pending ++ x ∷ []) } ∷ [])
          ∙ ap (λ bs. earlier ++ bs) (sym b);
    }

-- ---- one line

pub line-fails : (line : List ℕ) (r : Progress) (f : IntakeFault) → IsSoundProgress r → line_fault (r.lines + 1) line ≡ Some f → AreLinesRead (line ∷ []) r r (Some f)
line-fails line r f s e = record {
  first = sym (fault-one r.lines line ∙ e);
  follows = λ earlier items h.
      let P : List Item → Type 0 = λ xs. ProgressFollows earlier xs r in
      subst P (sym (ap (λ xs. items ++ xs) (items-bad (r.lines + 1) line [] f e) ∙ append-nil items)) h;
  count = λ q. cc;
  most = omega arith;
  sound = s;
}

pub line-gives : (line : List ℕ) (old new : Progress) (o : Option Item) → line_fault (old.lines + 1) line ≡ None → o ≡ item_by line → new.lines ≡ old.lines + 1 → IsSoundProgress new
    → ((earlier : List Closed) (items : List Item) → ProgressFollows earlier items old → ProgressFollows earlier (items ++ cons_option o []) new)
    → AreLinesRead (line ∷ []) old new None
line-gives line old new o e i n s f = record {
  first = sym (fault-one old.lines line ∙ e);
  follows = λ earlier items h.
      let P : List Item → Type 0 = λ xs. ProgressFollows earlier (items ++ xs) new in
      subst P (ap (λ p. cons_option p []) i ∙ sym (items-one (old.lines + 1) line e)) (f earlier items h);
  count = λ q. n;
  most = omega (arith, n);
  sound = s;
}

pub line-skips : (line : List ℕ) (r : Progress) → IsSoundProgress r → line_fault (r.lines + 1) line ≡ None → None ≡ item_by line → AreLinesRead (line ∷ []) r (record r { lines = r.lines + 1 }) None
line-skips line r s e i =
    let now : Progress = record r { lines = r.lines + 1 } in
    line-gives line r now None e i refl
    (record { few = s.few; counted = omega (arith, s.counted); fits = s.fits; closed_fit = s.closed_fit })
    (λ earlier items h.
    let P : List Item → Type 0 = λ xs. ProgressFollows earlier xs now in
    subst P (sym (append-nil items)) (record { at = h.at; later = h.later; batched = h.batched }))

-- ---- lines behind lines

pub read-none : (r : Progress) → IsSoundProgress r → AreLinesRead [] r r None
read-none r s = record {
  first = sym (fault-nil r.lines);
  follows = λ earlier items h. let P : List Item → Type 0 = λ xs. ProgressFollows earlier xs r in subst P (sym (append-nil items)) h;
  count = λ q. omega arith;
  most = omega arith;
  sound = s;
}

pub read-then : (ls ms : List (List ℕ)) (a b c : Progress) (f : Option IntakeFault) → AreLinesRead ls a b None → AreLinesRead ms b c f → AreLinesRead (ls ++ ms) a c f
read-then ls ms a b c f p q =
    let n : b.lines ≡ a.lines + length ls = p.count refl in
    record {
      first = q.first ∙ ap (λ k. first_line_fault k ms) n ∙ sym (fault-then a.lines ls ms (sym p.first));
      follows = λ earlier items h.
          let P : List Item → Type 0 = λ xs. ProgressFollows earlier xs c in
          subst P (append_assoc items (items_in ls) (items_in ms) ∙ ap (λ xs. items ++ xs) (sym (items-then a.lines ls ms (sym p.first)))) (q.follows earlier (items ++ items_in ls) (p.follows earlier items h));
      count = λ e. omega (arith, n, q.count e, length-append ls ms);
      most = omega (arith, n, q.most, length-append ls ms);
      sound = q.sound;
    }

pub read-stop : (ls ms : List (List ℕ)) (a b : Progress) (f : IntakeFault) → AreLinesRead ls a b (Some f) → AreLinesRead (ls ++ ms) a b (Some f)
read-stop ls ms a b f p = record {
  first = sym (fault-more a.lines ls ms f (sym p.first));
  follows = λ earlier items h.
      let P : List Item → Type 0 = λ xs. ProgressFollows earlier (items ++ xs) b in
      subst P (sym (items-stop a.lines ls ms f (sym p.first))) (p.follows earlier items h);
  count = λ e. cc;
  most = omega (arith, p.most, length-append ls ms);
  sound = p.sound;
}
