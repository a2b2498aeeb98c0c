-- The lines of a feed with more bytes behind.
use Rattle.std.proofs.Common.{◌≡◌, ◌<◌, ◌∙◌, ◌^◌, ap, sym, subst, refl, ℕ, ◌+◌, ◌-◌, ◌++◌, ◌==◌, ◌&&◌, Bool, true, false, not, List, [], ◌∷◌, length, take, inl, inr, append-nil, arith, take_all}
use Rattle.std.specs.Prelude.{◌⊎◌}
use Rattle.std.specs.Bool.{nat_le}
use Rattle.std.proofs.lemmas.Bool.{cases_lt}
use Rattle.std.proofs.lemmas.List.{take-append-le}
use Rattle.std.proofs.Math.Seq.{take-append_seam, take-append-add}
use Rattle.ty_intake.specs.Lines.{Cut, onto_first, cut_lines, cut_of, last_line, lines_of}
use Rattle.ty_intake.specs.steps.Progress.{behind}
use Rattle.ty_intake.proofs.Lines.{cut-newline, cut-other, cut-none}
use Rattle.ty_intake.proofs.ReadPieces.{behind-nothing}

-- ---- bytes behind bytes

abbrev pub followed : Cut → Cut → Cut
followed c d = record { lines = c.lines ++ (behind c.rest d.lines d.rest).lines; rest = (behind c.rest d.lines d.rest).rest }

followed-onto : (x : ℕ) (ls : List (List ℕ)) (rest : List ℕ) (ms : List (List ℕ)) (tail : List ℕ)
    → onto_first x (followed (record { lines = ls; rest = rest }) (record { lines = ms; rest = tail })).lines (followed (record { lines = ls; rest = rest }) (record { lines = ms; rest = tail })).rest
    ≡ followed (onto_first x ls rest) (record { lines = ms; rest = tail })
followed-onto x [] rest [] tail = refl
followed-onto x [] rest (m ∷ ms) tail = refl
followed-onto x (l ∷ ls) rest ms tail = refl

pub cut-append : (a b : List ℕ) → cut_lines (a ++ b) ≡ followed (cut_lines a) (cut_lines b)
cut-append [] b = behind-nothing (cut_lines b) ∙ sym (ap (λ (c : Cut). followed c (cut_lines b)) cut-none)
cut-append (x ∷ xs) b =
    elim (x == 10) as (λ v. (x == 10) ≡ v → cut_lines (x ∷ (xs ++ b)) ≡ followed (cut_lines (x ∷ xs)) (cut_lines b)) [
      | true ↦ λ e.
          cut-newline x (xs ++ b) e
          ∙ ap (λ (c : Cut). record { lines = [] ∷ c.lines; rest = c.rest }) (cut-append xs b)
          ∙ sym (ap (λ (c : Cut). followed c (cut_lines b)) (cut-newline x xs e))
      | false ↦ λ e.
          cut-other x (xs ++ b) e
          ∙ ap (λ (c : Cut). onto_first x c.lines c.rest) (cut-append xs b)
          ∙ followed-onto x (cut_lines xs).lines (cut_lines xs).rest (cut_lines b).lines (cut_lines b).rest
          ∙ sym (ap (λ (c : Cut). followed c (cut_lines b)) (cut-other x xs e))
    ] refl

-- ---- up to byte number 2^40

abbrev pub read_part : List ℕ → List ℕ
read_part bytes = take (2 ^ 40 - 1) bytes

pub part-all : (front back : List ℕ) → length front < 2 ^ 40 → (length back ≡ 0) ⊎ (length front ≡ 2 ^ 40 - 1) → read_part (front ++ back) ≡ front
part-all front [] h o = ap read_part (append-nil front) ∙ take_all (2 ^ 40 - 1) front (omega arith)
part-all front (x ∷ back) h (inl z) = absurd (omega arith)
part-all front (x ∷ back) h (inr z) = let P : ℕ → Type 0 = λ k. take k (front ++ x ∷ back) ≡ front in subst P z (take-append_seam front (x ∷ back))

pub part-more : (bytes more : List ℕ) → (extra : List ℕ) × (read_part (bytes ++ more) ≡ read_part bytes ++ extra)
part-more bytes more =
    elim (cases_lt (length bytes) (2 ^ 40 - 1)) [
      | inl lt ↦ (
        take (2 ^ 40 - 1 - length bytes) more,
        ap (λ (k : ℕ). take k (bytes ++ more)) (let e : 2 ^ 40 - 1 ≡ length bytes + (2 ^ 40 - 1 - length bytes) = omega arith in e)
            ∙ take-append-add bytes more (2 ^ 40 - 1 - length bytes)
            ∙ ap (λ (l : List ℕ). l ++ take (2 ^ 40 - 1 - length bytes) more) (sym (take_all (2 ^ 40 - 1) bytes (omega arith))),
      )
      | inr le ↦ ([], take-append-le (2 ^ 40 - 1) bytes more le ∙ sym (append-nil (read_part bytes)))
    ]

pub cut-more : (bytes more : List ℕ) → (d : Cut) × (cut_lines (read_part (bytes ++ more)) ≡ followed (cut_lines (read_part bytes)) d)
cut-more bytes more =
    let x = part-more bytes more in
    (cut_lines x.0, ap cut_lines x.1 ∙ cut-append (read_part bytes) x.0)

-- ---- lines of a feed that goes on, and of one that has ended

pub no-last : (b : Bool) (rest : List ℕ) → b ≡ false → last_line b rest ≡ []
no-last b [] e = refl
no-last b (x ∷ xs) e = ap (λ v. last_line v (x ∷ xs)) e

pub lines-open : (bytes : List ℕ) (ended : Bool) → ended && not (nat_le (2 ^ 40) (length bytes)) ≡ false
    → lines_of (record { bytes = bytes; ended = ended }) ≡ (cut_lines (read_part bytes)).lines
unfolding lines_of cut_of
lines-open bytes ended e =
    ap (λ ls. (cut_lines (read_part bytes)).lines ++ ls) (no-last (ended && not (nat_le (2 ^ 40) (length bytes))) (cut_lines (read_part bytes)).rest e)
    ∙ append-nil (cut_lines (read_part bytes)).lines

pub lines-ended : (bytes : List ℕ) → nat_le (2 ^ 40) (length bytes) ≡ false
    → lines_of (record { bytes = bytes; ended = true }) ≡ (cut_lines (read_part bytes)).lines ++ last_line true (cut_lines (read_part bytes)).rest
unfolding lines_of cut_of
lines-ended bytes e = ap (λ b. (cut_lines (read_part bytes)).lines ++ last_line (not b) (cut_lines (read_part bytes)).rest) e
