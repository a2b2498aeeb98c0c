-- The first place of a byte, and what stands round it.
use Rattle.std.proofs.Common.{◌≡◌, ℕ, suc, ◌+◌, ◌<◌, ◌≤◌, ◌==◌, Bool, true, false, cond, List, [], ◌∷◌, ◌++◌, length, take, drop, get_or, refl, sym, ap, ◌∙◌, arith, eq-eqb, ne_eqb, eqb-true, add-one, append_assoc, take-append-drop, length-drop, drop-cons, length-append, Some, None}
use Rattle.std.proofs.lemmas.Bool.{ltb-false}
use Rattle.std.proofs.lemmas.List.{take_at, drop_at}
use Rattle.std.proofs.lemmas.List.Sums.{passes_at_first}
use Rattle.std.proofs.lemmas.Option.{none-some}
use Rattle.std.proofs.NetLemmas.Options.{cond_some}
use Rattle.std.specs.List.{list_any, position, position_or_len, before_first, after_first}
use Rattle.ty_net.proofs.Pieces.{Lacks}

pub found_at : (p : ℕ → Bool) (xs : List ℕ) (i : ℕ) → Some i ≡ position p xs → position_or_len p xs ≡ i
found_at p xs i e = (cond_some _ (position_or_len p xs) i (sym e)).1

cond_is_none : (b : Bool) (x : ℕ) → None ≡ cond b (Some x) None → b ≡ false
cond_is_none true x e = absurd (none-some x e)
cond_is_none false x e = refl

pub found_nowhere : (p : ℕ → Bool) (xs : List ℕ) → None ≡ position p xs → length xs ≤ position_or_len p xs
found_nowhere p xs e = ltb-false (position_or_len p xs) (length xs) (cond_is_none _ (position_or_len p xs) e)

abbrev pub is_byte : ℕ → ℕ → Bool
is_byte c b = b == c

-- a text that lacks c, then c: its first place, and the parts
first_place : (c : ℕ) (front back : List ℕ) → Lacks c front → position_or_len (is_byte c) (front ++ c ∷ back) ≡ length front
first_place c [] back h = rw (eq-eqb c c refl)
first_place c (b ∷ front) back h = rw (ne_eqb b c h.0, first_place c front back h.1) (omega arith)

pub before_is : (c : ℕ) (front back : List ℕ) → Lacks c front → front ≡ before_first (is_byte c) (front ++ c ∷ back)
before_is c front back h = sym (take_at front (c ∷ back) _ (sym (first_place c front back h)))

pub after_is : (c : ℕ) (front back : List ℕ) → Lacks c front → back ≡ after_first (is_byte c) (front ++ c ∷ back)
after_is c front back h =
    let place = first_place c front back h in
    let past : length (front ++ (c ∷ [])) ≡ position_or_len (is_byte c) (front ++ c ∷ back) + 1 = length-append front (c ∷ []) ∙ ap (λ n. n + 1) (sym place) in
    sym (drop_at (front ++ (c ∷ [])) back _ past) ∙ ap (drop (position_or_len (is_byte c) (front ++ c ∷ back) + 1)) (append_assoc front (c ∷ []) back)

-- where something stands after the first c, the text is its parts with c between them
pub cut_back : (c : ℕ) (text : List ℕ) → 0 < length (after_first (is_byte c) text) → text ≡ before_first (is_byte c) text ++ (c ∷ after_first (is_byte c) text)
cut_back c text h =
    let n : ℕ = position_or_len (is_byte c) text in
    let within : n < length text = omega (arith, length-drop (n + 1) text) in
    let here : get_or text n 0 ≡ c = eqb-true (get_or text n 0) c (passes_at_first (is_byte c) text 0 within) in
    sym (take-append-drop n text)
    ∙ ap (λ t. take n text ++ t) (drop-cons text n 0 within ∙ ap (λ b. b ∷ drop (suc n) text) here ∙ ap (λ k. c ∷ drop k text) (sym (add-one n)))

pub has_none : (c : ℕ) (text : List ℕ) → Lacks c text → list_any (is_byte c) text ≡ false
has_none c [] h = refl
has_none c (b ∷ text) h = rw (ne_eqb b c h.0) (has_none c text h.1)

pub has_one : (c : ℕ) (front back : List ℕ) → Lacks c front → list_any (is_byte c) (front ++ c ∷ back) ≡ true
has_one c [] back h = rw (eq-eqb c c refl)
has_one c (b ∷ front) back h = rw (ne_eqb b c h.0) (has_one c front back h.1)
