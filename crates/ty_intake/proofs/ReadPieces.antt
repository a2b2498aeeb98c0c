-- A piece behind an unfinished line.
use Rattle.std.proofs.Common.{◌≡◌, ◌≤◌, ◌∙◌, ap, sym, subst, refl, ℕ, ◌+◌, ◌++◌, List, [], ◌∷◌, length, append_assoc, append-nil, arith, length-append}
use Rattle.std.specs.Prelude.{Option, None, Some, Result, Ok, Err, IfOk}
use Rattle.std.specs.Option.{option_or}
use Rattle.ty_intake.specs.Lines.{Cut, cut_lines}
use Rattle.ty_intake.specs.Faults.{rest_fault}
use Rattle.ty_intake.specs.steps.Progress.{IsSoundProgress, AreLinesRead, IsCutRead, IsKept, IsAt, behind}
use Rattle.ty_intake.specs.declared.progress.Progress.{Progress}
use Rattle.ty_intake.specs.declared.intake.IntakeFault.{IntakeFault}
use Rattle.ty_intake.proofs.ReadLines.{read-none, read-then, read-stop}

-- nothing but an unfinished line
pub only-rest : (bytes kept : List ℕ) (r : Progress) (f : Option IntakeFault) → IsSoundProgress r → IsKept r.lines bytes kept f
    → IsCutRead (record { lines = []; rest = bytes }) kept r r f
only-rest bytes kept r f s k =
    let n : r.lines ≡ r.lines + 0 = omega arith in
    record { inner = None; read = read-none r s; told = k.told ∙ ap (λ i. rest_fault i bytes) n; tail = k.tail }

pub first-then : (line : List ℕ) (c : Cut) (kept : List ℕ) (a b d : Progress) (f : Option IntakeFault) → AreLinesRead (line ∷ []) a b None → IsCutRead c kept b d f
    → IsCutRead (record { lines = line ∷ c.lines; rest = c.rest }) kept a d f
first-then line c kept a b d f p m =
    let n : b.lines + length c.lines ≡ a.lines + length (line ∷ c.lines) = omega (arith, p.count refl) in
    record { inner = m.inner; read = read-then (line ∷ []) c.lines a b d m.inner p m.read; told = m.told ∙ ap (λ i. option_or m.inner (rest_fault i c.rest)) n; tail = m.tail }

pub first-fails : (line : List ℕ) (c : Cut) (kept : List ℕ) (a b : Progress) (f : IntakeFault) → AreLinesRead (line ∷ []) a b (Some f)
    → IsCutRead (record { lines = line ∷ c.lines; rest = c.rest }) kept a b (Some f)
first-fails line c kept a b f p = record { inner = Some f; read = read-stop (line ∷ []) c.lines a b f p; told = refl; tail = λ q. cc }

-- ---- how far a piece is read

pub at-begin : (piece : List ℕ) (r : Progress) → IsSoundProgress r → IsAt piece piece r r
at-begin piece r s = record { done = []; read = read-none r s; whole = refl; tail = refl; shorter = omega arith }

pub at-step : (piece left line more : List ℕ) (a b d : Progress) → IsAt piece left a b
    → cut_lines left ≡ record { lines = line ∷ (cut_lines more).lines; rest = (cut_lines more).rest } → length more + 1 ≤ length left
    → AreLinesRead (line ∷ []) b d None → IsAt piece more a d
at-step piece left line more a b d h e s p = record {
  done = h.done ++ line ∷ [];
  read = read-then h.done (line ∷ []) a b d None h.read p;
  whole = h.whole ∙ ap (λ (c : Cut). h.done ++ c.lines) e ∙ sym (append_assoc h.done (line ∷ []) (cut_lines more).lines);
  tail = h.tail ∙ ap (λ (c : Cut). c.rest) e;
  shorter = omega (arith, length-append h.done (line ∷ []), h.shorter, s);
}

pub at-fault : (piece left line more kept : List ℕ) (a b d : Progress) (f : IntakeFault) → IsAt piece left a b
    → cut_lines left ≡ record { lines = line ∷ (cut_lines more).lines; rest = (cut_lines more).rest }
    → AreLinesRead (line ∷ []) b d (Some f) → IsCutRead (cut_lines piece) kept a d (Some f)
at-fault piece left line more kept a b d f h e p =
    let whole : (h.done ++ line ∷ []) ++ (cut_lines more).lines ≡ (cut_lines piece).lines = append_assoc h.done (line ∷ []) (cut_lines more).lines ∙ sym (h.whole ∙ ap (λ (c : Cut). h.done ++ c.lines) e) in
    let P : List (List ℕ) → Type 0 = λ ls. AreLinesRead ls a d (Some f) in
    record {
      inner = Some f;
      read = subst P whole (read-stop (h.done ++ line ∷ []) (cut_lines more).lines a d f (read-then h.done (line ∷ []) a b d (Some f) h.read p));
      told = refl;
      tail = λ q. cc;
    }

pub at-end : (piece left kept : List ℕ) (a b : Progress) (f : Option IntakeFault) → IsAt piece left a b → cut_lines left ≡ record { lines = []; rest = left }
    → IsKept b.lines left kept f → IsCutRead (cut_lines piece) kept a b f
at-end piece left kept a b f h e k =
    let whole : h.done ≡ (cut_lines piece).lines = sym (h.whole ∙ ap (λ (c : Cut). h.done ++ c.lines) e ∙ append-nil h.done) in
    let tail : left ≡ (cut_lines piece).rest = sym (h.tail ∙ ap (λ (c : Cut). c.rest) e) in
    let n : b.lines ≡ a.lines + length (cut_lines piece).lines = h.read.count refl ∙ ap (λ (ls : List (List ℕ)). a.lines + length ls) whole in
    let P : List (List ℕ) → Type 0 = λ ls. AreLinesRead ls a b None in
    record {
      inner = None;
      read = subst P whole h.read;
      told = k.told ∙ ap (λ i. rest_fault i left) n ∙ ap (rest_fault (a.lines + length (cut_lines piece).lines)) tail;
      tail = λ q. k.tail q ∙ tail;
    }

-- ---- behind an unfinished line

pub behind-nothing : (c : Cut) → c ≡ behind [] c.lines c.rest
behind-nothing c = by c.lines c.rest
  where
    by : (ls : List (List ℕ)) (rest : List ℕ) → record { lines = ls; rest = rest } ≡ behind [] ls rest
    by [] rest = refl
    by (l ∷ ls) rest = refl

pub behind-found : (rest piece line : List ℕ) (c : Cut) → cut_lines piece ≡ record { lines = line ∷ c.lines; rest = c.rest }
    → record { lines = (rest ++ line) ∷ c.lines; rest = c.rest } ≡ behind rest (cut_lines piece).lines (cut_lines piece).rest
behind-found rest piece line c e = sym (ap (λ (d : Cut). behind rest d.lines d.rest) e)

pub behind-all : (rest piece : List ℕ) → cut_lines piece ≡ record { lines = []; rest = piece }
    → record { lines = []; rest = rest ++ piece } ≡ behind rest (cut_lines piece).lines (cut_lines piece).rest
behind-all rest piece e = sym (ap (λ (d : Cut). behind rest d.lines d.rest) e)

-- ---- what holds of a result, and what follows

pub if-ok : {T E : Type 0} (r : Result T E) (P Q : T → Type 0) → ((t : T) → P t → Q t) → IfOk r P → IfOk r Q
if-ok {T} {E} (Ok t) P Q f h = f t h
if-ok {T} {E} (Err e) P Q f h = tt
