-- A feed, cut at its line feeds.
use Rattle.std.proofs.Common.{◌≡◌, ◌≤◌, ◌+◌, ◌∙◌, ap, true≢false, ◌++◌, ◌||◌, ℕ, zero, suc, ◌<◌, List, [], ◌∷◌, Bool, true, false, ◌==◌, length, take, drop, get_or, refl, arith}
use Rattle.std.specs.List.{list_any}
use Rattle.ty_intake.specs.Lines.{Cut, onto_first, cut_lines}

pub not_true : (b : Bool) → (b ≡ true → ⊥) → b ≡ false
not_true true h = absurd (h refl)
not_true false h = refl

no-or : (a b : Bool) → (a || b) ≡ false → (a ≡ false) × (b ≡ false)
no-or true b h = absurd (true≢false h)
no-or false b h = (refl, h)

pub cut-newline : (x : ℕ) (xs : List ℕ) → (x == 10) ≡ true → cut_lines (x ∷ xs) ≡ record { lines = [] ∷ (cut_lines xs).lines; rest = (cut_lines xs).rest }
unfolding cut_lines
cut-newline x xs e = rw e refl

pub cut-other : (x : ℕ) (xs : List ℕ) → (x == 10) ≡ false → cut_lines (x ∷ xs) ≡ onto_first x (cut_lines xs).lines (cut_lines xs).rest
unfolding cut_lines
cut-other x xs e = rw e refl

pub cut-none : cut_lines [] ≡ record { lines = []; rest = [] }
unfolding cut_lines
cut-none = refl

-- a line that is known to have no line feed

pub cut-ended : (line more : List ℕ) → list_any (λ b. b == 10) line ≡ false
    → cut_lines (line ++ 10 ∷ more) ≡ record { lines = line ∷ (cut_lines more).lines; rest = (cut_lines more).rest }
cut-ended [] more h = cut-newline 10 more refl
cut-ended (x ∷ xs) more h =
    let n : ((x == 10) ≡ false) × (list_any (λ b. b == 10) xs ≡ false) = no-or (x == 10) _ h in
    cut-other x (xs ++ 10 ∷ more) n.0 ∙ ap (λ (c : Cut). onto_first x c.lines c.rest) (cut-ended xs more n.1)

pub cut-rest : (line : List ℕ) → list_any (λ b. b == 10) line ≡ false → cut_lines line ≡ record { lines = []; rest = line }
cut-rest [] h = cut-none
cut-rest (x ∷ xs) h =
    let n : ((x == 10) ≡ false) × (list_any (λ b. b == 10) xs ≡ false) = no-or (x == 10) _ h in
    cut-other x xs n.0 ∙ ap (λ (c : Cut). onto_first x c.lines c.rest) (cut-rest xs n.1)

-- how much there is

length-onto : (x : ℕ) (lines : List (List ℕ)) (rest : List ℕ) → length (onto_first x lines rest).lines + length (onto_first x lines rest).rest ≤ length lines + length rest + 1
length-onto x [] rest = omega arith
length-onto x (l ∷ ls) rest = omega arith

pub cut-length : (bytes : List ℕ) → length (cut_lines bytes).lines + length (cut_lines bytes).rest ≤ length bytes
cut-length [] = rw cut-none (omega arith)
cut-length (x ∷ xs) =
    let h : length (cut_lines xs).lines + length (cut_lines xs).rest ≤ length xs = cut-length xs in
    elim (x == 10) as (λ v. (x == 10) ≡ v → length (cut_lines (x ∷ xs)).lines + length (cut_lines (x ∷ xs)).rest ≤ length (x ∷ xs)) [
      | true ↦ λ e. rw (cut-newline x xs e) (omega arith)
      | false ↦ λ e. rw (cut-other x xs e) (omega (arith, length-onto x (cut_lines xs).lines (cut_lines xs).rest))
    ] refl

-- the first line feed, by its place

pub cut-found : (xs : List ℕ) (k : ℕ) → k < length xs → (get_or xs k 0 == 10) ≡ true → ((i : ℕ) → i < k → (get_or xs i 0 == 10) ≡ true → ⊥)
    → cut_lines xs ≡ record { lines = take k xs ∷ (cut_lines (drop (suc k) xs)).lines; rest = (cut_lines (drop (suc k) xs)).rest }
cut-found [] k lt e none = absurd (omega (arith, lt))
cut-found (x ∷ xs) zero lt e none = cut-newline x xs e
cut-found (x ∷ xs) (suc k) lt e none =
    let f : (x == 10) ≡ false = not_true (x == 10) (none 0 (omega arith)) in
    cut-other x xs f ∙ ap (λ (c : Cut). onto_first x c.lines c.rest) (cut-found xs k (omega (arith, lt)) e (λ i l. none (suc i) (omega (arith, l))))

pub cut-all : (xs : List ℕ) → ((i : ℕ) → i < length xs → (get_or xs i 0 == 10) ≡ true → ⊥) → cut_lines xs ≡ record { lines = []; rest = xs }
cut-all [] none = cut-none
cut-all (x ∷ xs) none =
    let f : (x == 10) ≡ false = not_true (x == 10) (none 0 (omega arith)) in
    cut-other x xs f ∙ ap (λ (c : Cut). onto_first x c.lines c.rest) (cut-all xs (λ i l. none (suc i) (omega (arith, l))))
