-- After a fault, and after the end, a feed gives nothing more.
use Rattle.std.proofs.Common.{◌≡◌, ◌<◌, ◌∙◌, ◌^◌, ap, sym, subst, refl, ℕ, ◌+◌, ◌++◌, ◌&&◌, Bool, true, false, not, List, [], ◌∷◌, length, append-nil, arith, length-append, ltb-true, lt-ltb}
use Rattle.std.specs.Prelude.{Option, None, Some, is_some, if◌then◌else◌}
use Rattle.std.specs.Bool.{nat_le}
use Rattle.std.specs.Option.{option_or}
use Rattle.ty_base.specs.declared.item.Item.{Item}
use Rattle.ty_intake.specs.Lines.{Feed, cut_lines, cut_of, last_line, lines_of}
use Rattle.ty_intake.specs.Faults.{is_too_long, line_fault, first_line_fault, rest_fault, feed_fault}
use Rattle.ty_intake.specs.Batches.{items_of, batches, batches_of}
use Rattle.ty_intake.specs.steps.Progress.{items_in, behind}
use Rattle.ty_intake.specs.declared.intake.IntakeFault.{IntakeFault}
use Rattle.ty_intake.specs.declared.intake.IntakeFault.TheVariants.{LongLine, TooMuch}
use Rattle.ty_intake.proofs.LineFaults.{told-long}
use Rattle.ty_intake.proofs.Faults.{fault-cons, fault-more, fault-then, items-bad, items-then, items-stop}
use Rattle.ty_intake.proofs.LongerFeeds.{read_part}

-- ---- what shows first, by its parts

unfoldable pub much_fault : Bool → Option IntakeFault
much_fault true = Some TooMuch
much_fault false = None

unfoldable pub told : List (List ℕ) → ℕ → List ℕ → Bool → Option IntakeFault
told ls n rest much = option_or (first_line_fault 0 ls) (option_or (rest_fault n rest) (much_fault much))

much-is : (b : Bool) → (if b then Some TooMuch else None) ≡ much_fault b
unfolding much_fault
much-is true = refl
much-is false = refl

pub fault-told : (bytes : List ℕ) (ended : Bool) (ls : List (List ℕ)) → lines_of (record { bytes = bytes; ended = ended }) ≡ ls
    → feed_fault (record { bytes = bytes; ended = ended }) ≡ told ls (length (cut_lines (read_part bytes)).lines) (cut_lines (read_part bytes)).rest (nat_le (2 ^ 40) (length bytes))
unfolding feed_fault cut_of told
fault-told bytes ended ls e =
    ap (λ (o : Option IntakeFault). option_or (first_line_fault 0 (lines_of (record { bytes = bytes; ended = ended }))) (option_or (rest_fault (length (cut_lines (read_part bytes)).lines) (cut_lines (read_part bytes)).rest) o)) (much-is (nat_le (2 ^ 40) (length bytes)))
    ∙ ap (λ (xs : List (List ℕ)). option_or (first_line_fault 0 xs) (option_or (rest_fault (length (cut_lines (read_part bytes)).lines) (cut_lines (read_part bytes)).rest) (much_fault (nat_le (2 ^ 40) (length bytes))))) e

pub items-told : (feed : Feed) (ls : List (List ℕ)) → lines_of feed ≡ ls → items_of feed ≡ items_in ls
unfolding items_of
items-told feed ls e = ap items_in e

pub never : (b : Bool) → (b && false) ≡ false
never true = refl
never false = refl

-- no batch closes at the end of a feed with a fault
pub batches-told : (feed : Feed) (items : List Item) (f : IntakeFault) → feed_fault feed ≡ Some f → items_of feed ≡ items → batches_of feed ≡ batches false items
unfolding batches_of
batches-told feed items f e i =
    ap (λ (o : Option IntakeFault). batches (feed.ended && not (is_some o)) (items_of feed)) e
    ∙ ap (λ b. batches b (items_of feed)) (never feed.ended)
    ∙ ap (batches false) i

-- which part shows a fault
pub data Shows (ls : List (List ℕ)) (n : ℕ) (rest : List ℕ) (much : Bool) (f : IntakeFault) : Type 0 where
  by_line : first_line_fault 0 ls ≡ Some f → Shows ls n rest much f
  by_rest : first_line_fault 0 ls ≡ None → 8388608 < length rest → f ≡ LongLine (n + 1) → Shows ls n rest much f
  by_end : first_line_fault 0 ls ≡ None → rest_fault n rest ≡ None → much ≡ true → f ≡ TooMuch → Shows ls n rest much f

some-same : {A : Type 0} (x y : A) → Some x ≡ Some y → x ≡ y
some-same {A} x y e = cc

shows-end : (ls : List (List ℕ)) (n : ℕ) (rest : List ℕ) (much : Bool) (f : IntakeFault) → first_line_fault 0 ls ≡ None → rest_fault n rest ≡ None → much_fault much ≡ Some f → Shows ls n rest much f
unfolding much_fault
shows-end ls n rest true f p q e = by_end p q refl (sym (some-same TooMuch f e))
shows-end ls n rest false f p q e = cc

shows-rest : (ls : List (List ℕ)) (n : ℕ) (rest : List ℕ) (much : Bool) (f : IntakeFault) (b : Bool) → is_too_long rest ≡ b → first_line_fault 0 ls ≡ None
    → option_or (rest_fault n rest) (much_fault much) ≡ Some f → Shows ls n rest much f
shows-rest ls n rest much f true t p e =
    by_rest p (ltb-true 8388608 (length rest) t) (sym (some-same (LongLine (n + 1)) f (sym (ap (λ (b : Bool). option_or (if b then Some (LongLine (n + 1)) else None) (much_fault much)) t) ∙ e)))
shows-rest ls n rest much f false t p e =
    shows-end ls n rest much f p (ap (λ (b : Bool). if b then Some (LongLine (n + 1)) else None) t) (sym (ap (λ (b : Bool). option_or (if b then Some (LongLine (n + 1)) else None) (much_fault much)) t) ∙ e)

pub shows : (ls : List (List ℕ)) (n : ℕ) (rest : List ℕ) (much : Bool) (f : IntakeFault) → told ls n rest much ≡ Some f → Shows ls n rest much f
unfolding told
shows ls n rest much f e =
    elim (first_line_fault 0 ls) as (λ o. first_line_fault 0 ls ≡ o → Shows ls n rest much f) [
      | None ↦ λ p. shows-rest ls n rest much f (is_too_long rest) refl p (sym (ap (λ (o : Option IntakeFault). option_or o (option_or (rest_fault n rest) (much_fault much))) p) ∙ e)
      | Some g ↦ λ p. by_line (p ∙ (sym (ap (λ (o : Option IntakeFault). option_or o (option_or (rest_fault n rest) (much_fault much))) p) ∙ e))
    ] refl

-- ---- the same fault and the same items, with more behind

pub record Same (ls ms : List (List ℕ)) (n : ℕ) (rest : List ℕ) (much : Bool) (f : IntakeFault) : Type 0 where
  pub fault : told ms n rest much ≡ Some f
  pub items : items_in ms ≡ items_in ls

pub same-line : (ls more : List (List ℕ)) (n : ℕ) (rest : List ℕ) (much : Bool) (f : IntakeFault) → first_line_fault 0 ls ≡ Some f → Same ls (ls ++ more) n rest much f
unfolding told
same-line ls more n rest much f e = record {
  fault = ap (λ (o : Option IntakeFault). option_or o (option_or (rest_fault n rest) (much_fault much))) (fault-more 0 ls more f e);
  items = items-stop 0 ls more f e;
}

-- a line that begins with what is too long
same-long : (ls : List (List ℕ)) (line : List ℕ) (more : List (List ℕ)) (n : ℕ) (rest : List ℕ) (much : Bool) (f : IntakeFault) → first_line_fault 0 ls ≡ None → 8388608 < length line → f ≡ LongLine (length ls + 1)
    → Same ls (ls ++ line ∷ more) n rest much f
unfolding told
same-long ls line more n rest much f p h e =
    let k : ℕ = length ls in
    let z : 0 + k ≡ k = omega arith in
    let long : line_fault (k + 1) line ≡ Some f = told-long (k + 1) line h ∙ ap Some (sym e) in
    let first : first_line_fault 0 (ls ++ line ∷ more) ≡ Some f =
    fault-then 0 ls (line ∷ more) p
    ∙ ap (λ i. first_line_fault i (line ∷ more)) z
    ∙ fault-cons k line more
    ∙ ap (λ (o : Option IntakeFault). option_or o (first_line_fault (k + 1) more)) long in
    record {
      fault = ap (λ (o : Option IntakeFault). option_or o (option_or (rest_fault n rest) (much_fault much))) first;
      items = items-then 0 ls (line ∷ more) p ∙ ap (λ (xs : List Item). items_in ls ++ xs) (items-bad (k + 1) line more f long) ∙ append-nil (items_in ls);
    }

pub same-open : (ls : List (List ℕ)) (n : ℕ) (rest : List ℕ) (much : Bool) (f : IntakeFault) → first_line_fault 0 ls ≡ None → 8388608 < length rest → f ≡ LongLine (n + 1) → Same ls ls n rest much f
unfolding told
same-open ls n rest much f p h e = record {
  fault =
      ap (λ (o : Option IntakeFault). option_or o (option_or (rest_fault n rest) (much_fault much))) p
      ∙ ap (λ (b : Bool). option_or (if b then Some (LongLine (n + 1)) else None) (much_fault much)) (lt-ltb 8388608 (length rest) h)
      ∙ ap Some (sym e);
  items = refl;
}

pub same-end : (ls : List (List ℕ)) (n : ℕ) (rest : List ℕ) (much : Bool) (f : IntakeFault) → first_line_fault 0 ls ≡ None → rest_fault n rest ≡ None → much ≡ true → f ≡ TooMuch → Same ls ls n rest much f
unfolding told much_fault
same-end ls n rest much f p q m e = record {
  fault =
      ap (λ (o : Option IntakeFault). option_or o (option_or (rest_fault n rest) (much_fault much))) p
      ∙ ap (λ (o : Option IntakeFault). option_or o (much_fault much)) q
      ∙ ap much_fault m
      ∙ ap Some (sym e);
  items = refl;
}

-- behind an unfinished line that is too long
pub same-rest : (ls : List (List ℕ)) (rest : List ℕ) (ms : List (List ℕ)) (tail : List ℕ) (much : Bool) (f : IntakeFault) → first_line_fault 0 ls ≡ None → 8388608 < length rest → f ≡ LongLine (length ls + 1)
    → Same ls (ls ++ (behind rest ms tail).lines) (length (ls ++ (behind rest ms tail).lines)) (behind rest ms tail).rest much f
same-rest ls rest [] tail much f p h e =
    let P : List (List ℕ) → Type 0 = λ xs. Same ls xs (length xs) (rest ++ tail) much f in
    subst P (sym (append-nil ls)) (same-open ls (length ls) (rest ++ tail) much f p (omega (arith, h, length-append rest tail)) e)
same-rest ls rest (m ∷ ms) tail much f p h e =
    same-long ls (rest ++ m) ms (length (ls ++ (rest ++ m) ∷ ms)) tail much f p (omega (arith, h, length-append rest m)) e

pub same-last : (ls : List (List ℕ)) (rest : List ℕ) (much : Bool) (f : IntakeFault) → first_line_fault 0 ls ≡ None → 8388608 < length rest → f ≡ LongLine (length ls + 1)
    → Same ls (ls ++ last_line true rest) (length ls) rest much f
same-last ls [] much f p h e = absurd (omega (arith, h))
same-last ls (x ∷ xs) much f p h e = same-long ls (x ∷ xs) [] (length ls) (x ∷ xs) much f p h e
