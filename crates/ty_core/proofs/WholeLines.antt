-- A feed of whole lines has no fault at its end.
use Rattle.std.proofs.Common.{◌≡◌, ℕ, ◌-◌, ◌≤◌, ◌==◌, Bool, true, false, cond, List, [], ◌∷◌, ◌++◌, length, refl, sym, ap, ◌∙◌, arith, append_assoc, append-nil, take_all}
use Rattle.std.specs.Prelude.{Option, None, Some, not, ◌&&◌, if◌then◌else◌}
use Rattle.std.specs.Option.{option_or}
use Rattle.std.proofs.lemmas.Bool.{leb-false}
use Rattle.ty_base.specs.declared.limits.TheConstants.{INPUT_BYTES}
use Rattle.ty_intake.specs.Lines.{Feed, Cut, fed_with, ended_now, onto_first, cut_lines, is_too_much, cut_of, last_line, lines_of}
use Rattle.ty_intake.specs.Faults.{first_line_fault, rest_fault, feed_fault}
use Rattle.ty_intake.specs.declared.intake.IntakeFault.{IntakeFault}
use Rattle.ty_intake.specs.declared.intake.IntakeFault.TheVariants.{TooMuch}

-- a byte 10 ends the last line
record EndsWhole (c : Cut) : Type 0 where
  first : List ℕ
  others : List (List ℕ)
  is : c ≡ record { lines = first ∷ others; rest = [] }

ends_whole : (xs : List ℕ) → EndsWhole (cut_lines (xs ++ 10 ∷ []))
unfolding cut_lines
ends_whole [] = record { first = []; others = []; is = refl }
ends_whole (x ∷ xs) =
    let e = ends_whole xs in
    elim (x == 10) as (λ b. EndsWhole (cond b (record { lines = [] ∷ (cut_lines (xs ++ 10 ∷ [])).lines; rest = (cut_lines (xs ++ 10 ∷ [])).rest }) (onto_first x (cut_lines (xs ++ 10 ∷ [])).lines (cut_lines (xs ++ 10 ∷ [])).rest))) [
      | true ↦ record {
        first = [];
        others = e.first ∷ e.others;
        is = ap (λ (c : Cut). record { lines = [] ∷ c.lines; rest = c.rest }) e.is;
      }
      | false ↦ record {
        first = x ∷ e.first;
        others = e.others;
        is = ap (λ (c : Cut). onto_first x c.lines c.rest) e.is;
      }
    ]

not_too_much : (feed : Feed) → feed_fault feed ≡ None → is_too_much feed ≡ false
unfolding feed_fault
not_too_much feed h = last (is_too_much feed) (first_line_fault 0 (lines_of feed)) (rest_fault (length (cut_of feed).lines) (cut_of feed).rest) h
  where
    last : (b : Bool) (x y : Option IntakeFault) → option_or x (option_or y (if b then Some TooMuch else None)) ≡ None → b ≡ false
    last false x y h = refl
    last true None None h = cc
    last true None (Some f) h = cc
    last true (Some f) y h = cc

few_bytes : (feed : Feed) → feed_fault feed ≡ None → length feed.bytes ≤ INPUT_BYTES - 1
few_bytes feed h = omega (arith, leb-false INPUT_BYTES (length feed.bytes) (not_too_much feed h))

lined_by : (feed : Feed) (line : List ℕ) (b : Bool) → feed.ended ≡ b → (cut_of feed).rest ≡ [] → feed_fault (fed_with feed (line ++ 10 ∷ [])) ≡ None → (cut_of (fed_with feed (line ++ 10 ∷ []))).rest ≡ []
unfolding cut_of
lined_by feed line true t e h = ap (λ b. (cut_of (if b then feed else record feed { bytes = feed.bytes ++ (line ++ 10 ∷ []) })).rest) t ∙ e
lined_by feed line false f e h =
    let now : Feed = record feed { bytes = feed.bytes ++ (line ++ 10 ∷ []) } in
    let same : fed_with feed (line ++ 10 ∷ []) ≡ now = ap (λ b. if b then feed else now) f in
    let good : feed_fault now ≡ None = ap feed_fault (sym same) ∙ h in
    ap (λ (x : Feed). (cut_of x).rest) same
    ∙ ap (λ (l : List ℕ). (cut_lines l).rest) (take_all (INPUT_BYTES - 1) now.bytes (few_bytes now good) ∙ sym (append_assoc feed.bytes line (10 ∷ [])))
    ∙ ap (λ (c : Cut). c.rest) (ends_whole (feed.bytes ++ line)).is

pub rest_lined : (feed : Feed) (line : List ℕ) → (cut_of feed).rest ≡ [] → feed_fault (fed_with feed (line ++ 10 ∷ [])) ≡ None → (cut_of (fed_with feed (line ++ 10 ∷ []))).rest ≡ []
rest_lined feed line e h = lined_by feed line feed.ended refl e h

no_last : (b : Bool) (rest : List ℕ) → rest ≡ [] → last_line b rest ≡ []
no_last b [] e = refl
no_last b (x ∷ xs) e = cc

lines_whole : (feed : Feed) → (cut_of feed).rest ≡ [] → lines_of feed ≡ (cut_of feed).lines
unfolding lines_of
lines_whole feed e =
    ap (λ l. (cut_of feed).lines ++ l) (no_last (feed.ended && not (is_too_much feed)) (cut_of feed).rest e) ∙ append-nil (cut_of feed).lines

pub rest_ended : (feed : Feed) → (cut_of feed).rest ≡ [] → (cut_of (ended_now feed)).rest ≡ []
unfolding cut_of
rest_ended feed e = e

-- the end of whole lines brings no fault
pub end_good : (feed : Feed) → (cut_of feed).rest ≡ [] → feed_fault feed ≡ None → feed_fault (ended_now feed) ≡ None
unfolding feed_fault cut_of
end_good feed e h =
    ap (λ ls. option_or (first_line_fault 0 ls) (option_or (rest_fault (length (cut_of feed).lines) (cut_of feed).rest) (if is_too_much feed then Some TooMuch else None))) (lines_whole (ended_now feed) e ∙ sym (lines_whole feed e))
    ∙ h
