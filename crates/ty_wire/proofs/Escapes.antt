-- Escapes, byte by byte and by runs of bytes that need none.
use Rattle.std.proofs.Common.{◌≡◌, ℕ, zero, suc, ◌+◌, ◌/◌, ◌%◌, ◌^◌, ◌<◌, ◌≤◌, Bool, true, false, cond, eqb, ltb, List, [], ◌∷◌, ◌++◌, map, replicate, bit_or, length, take, drop, get_or, refl, sym, ap, ap₂, ◌∙◌, arith, ◌||◌, ◌==◌, add-one, drop-cons, length-append, length-take-le, lt-ltb, le-ltb}
use Rattle.std.proofs.lemmas.Bool.{or_parts, not-true, eqb-false, ltb-false}
use Rattle.std.proofs.lemmas.Simd.{zip2_splat, mask_l-mod, leading_from_mask_l, trailing_mask_l}
use Rattle.std.proofs.lemmas.List.{length-map}
use Rattle.std.proofs.lemmas.List.Sums.{prefix_len-le-length}
use Rattle.std.specs.List.{prefix_len}
use Rattle.std.specs.Char.{digit_char}
use lib.Lanes.{zip2, mask_l, top}
use lib.Count.{count_trailing_zeros}
use Rattle.json.specs.Run.{is_stop, is_plain}
use Rattle.json.specs.Print.{escape_letter, escape_byte, escape}
use Rattle.json.proofs.Printed.Strings.{escape_byte_plain}

-- ---- one byte

pub letter-text : (x l : ℕ) → l ≡ escape_letter x → 0 < l → escape_byte x ≡ 92 ∷ l ∷ []
unfolding escape_byte
letter-text x l e h = rw (lt-ltb 0 (escape_letter x) (omega (arith, e, h))) (ap (λ (k : ℕ). 92 ∷ k ∷ []) (sym e))

pub control-text : (x l : ℕ) → l ≡ escape_letter x → l ≤ 0 → x < 32 → escape_byte x ≡ 92 ∷ 117 ∷ 48 ∷ 48 ∷ digit_char (x / 16) ∷ digit_char (x % 16) ∷ []
unfolding escape_byte
control-text x l e h c = rw (le-ltb 0 (escape_letter x) (omega (arith, e, h)), lt-ltb x 32 c) refl

pub self-text : (x l : ℕ) → l ≡ escape_letter x → l ≤ 0 → 32 ≤ x → escape_byte x ≡ x ∷ []
unfolding escape_byte
self-text x l e h c = rw (le-ltb 0 (escape_letter x) (omega (arith, e, h)), le-ltb x 32 c) refl

plain_byte : (x : ℕ) → is_plain x ≡ true → escape_byte x ≡ x ∷ []
plain_byte x e =
    let none = or_parts ((x == 34) || (x == 92)) _ (not-true _ e) in
    let tests = or_parts (x == 34) _ none.0 in
    escape_byte_plain x (eqb-false x 34 tests.0) (eqb-false x 92 tests.1) (ltb-false x 32 none.1)

-- ---- runs

-- the first n bytes, of which each needs none, stand for themselves
pub escape-run : (n : ℕ) (s : List ℕ) → n ≤ prefix_len is_plain s → escape s ≡ take n s ++ escape (drop n s)
escape-run zero s h = refl
escape-run (suc n) [] h = absurd (omega arith)
escape-run (suc n) (x ∷ s) h =
    elim (is_plain x) as (λ b. is_plain x ≡ b → suc n ≤ cond b (1 + prefix_len is_plain s) 0 → escape (x ∷ s) ≡ take (suc n) (x ∷ s) ++ escape (drop (suc n) (x ∷ s))) [
      | true ↦ λ e g i. plain_byte x e i ++ escape-run n s (omega arith) i
      | false ↦ λ e g. absurd (omega arith)
    ] refl h

pub escape-next : (s : List ℕ) (i x : ℕ) → i < length s → x ≡ get_or s i 0 → escape (drop i s) ≡ escape_byte x ++ escape (drop (i + 1) s)
escape-next s i x h e =
    ap escape (drop-cons s i 0 h) ∙ ap (λ (y : ℕ). escape_byte y ++ escape (drop (suc i) s)) (sym e)
    ∙ ap (λ (k : ℕ). escape_byte x ++ escape (drop k s)) (sym (add-one i))

pub part-plain : (s : List ℕ) (n : ℕ) → n ≤ length s → n ≤ prefix_len is_plain s → length (escape s) ≡ n + length (escape (drop n s))
part-plain s n w h = omega (arith, ap length (escape-run n s h), length-append (take n s) (escape (drop n s)), length-take-le n s w)

pub part-byte : (s : List ℕ) (n x : ℕ) → n < length s → x ≡ get_or s n 0 → n ≤ prefix_len is_plain s → length (escape s) ≡ n + length (escape_byte x) + length (escape (drop (n + 1) s))
part-byte s n x w e h = omega (arith, part-plain s n (omega arith) h, ap length (escape-next s n x w e), length-append (escape_byte x) (escape (drop (n + 1) s)))

-- ---- runs, by 16 bytes

front-run : (n : ℕ) (s : List ℕ) → prefix_len is_plain (take n s) ≤ prefix_len is_plain s
front-run zero s = omega arith
front-run (suc n) [] = omega arith
front-run (suc n) (x ∷ s) =
    elim (is_plain x) as (λ b. cond b (1 + prefix_len is_plain (take n s)) 0 ≤ cond b (1 + prefix_len is_plain s) 0) [
      | true ↦ omega (arith, front-run n s)
      | false ↦ omega arith
    ]

pub run-all : (s : List ℕ) (n : ℕ) → n ≤ length s → mask_l (map is_stop (take n s)) ≡ 0 → n ≤ prefix_len is_plain s
run-all s n h e = omega (arith, front-run n s, leading_from_mask_l is_stop (take n s) e, length-take-le n s h)

pub run-some : (s : List ℕ) (n : ℕ) → n ≤ length s → n ≤ 64 → 0 < mask_l (map is_stop (take n s))
    → (count_trailing_zeros 64 (mask_l (map is_stop (take n s))) ≤ n) × (count_trailing_zeros 64 (mask_l (map is_stop (take n s))) ≤ prefix_len is_plain s)
run-some s n h f e =
    let long = length-take-le n s h in
    let run = trailing_mask_l is_stop 64 (take n s) (omega arith) e in
    (omega (arith, run, prefix_len-le-length is_plain (take n s), long), omega (arith, run, front-run n s))

pub run-within : (s : List ℕ) → prefix_len is_plain s ≤ length s
run-within s = prefix_len-le-length is_plain s

-- ---- the mask of 16 bytes

abbrev hit : ℕ → ℕ → ℕ
hit a b = cond (eqb a b) 255 0

abbrev below : ℕ → ℕ → ℕ
below a b = cond (ltb a b) 255 0

lane : (p q r : Bool) → top 7 (bit_or (bit_or (cond p 255 0) (cond q 255 0)) (cond r 255 0)) ≡ ((p || q) || r)
lane true true true = refl
lane true true false = refl
lane true false true = refl
lane true false false = refl
lane false true true = refl
lane false true false = refl
lane false false true = refl
lane false false false = refl

lanes : (v : List ℕ) → map (top 7) (zip2 bit_or (zip2 bit_or (map (λ x. hit x 34) v) (map (λ x. hit x 92) v)) (map (λ x. below x 32) v)) ≡ map is_stop v
lanes [] = refl
lanes (x ∷ v) = ap₂ (λ (b : Bool) (l : List Bool). b ∷ l) (lane (eqb x 34) (eqb x 92) (ltb x 32)) (lanes v)

pub stop-mask : (v : List ℕ) → length v ≡ 16
    → mask_l (map (top 7) (zip2 bit_or (zip2 bit_or (zip2 hit v (replicate 16 34)) (zip2 hit v (replicate 16 92))) (zip2 below v (replicate 16 32)))) % 2 ^ 64 ≡ mask_l (map is_stop v)
stop-mask v h =
    let marks = ap₂ (zip2 bit_or) (ap₂ (zip2 bit_or) (zip2_splat hit v 16 34 h) (zip2_splat hit v 16 92 h)) (zip2_splat below v 16 32 h) in
    ap (λ l. mask_l (map (top 7) l) % 2 ^ 64) marks ∙ ap (λ l. mask_l l % 2 ^ 64) (lanes v) ∙ mask_l-mod (map is_stop v) 64 (omega (arith, length-map v is_stop, h))

-- ---- reading

pub escape-plain : (n : ℕ) (s : List ℕ) → n ≤ prefix_len is_plain s → escape (take n s) ≡ take n s
escape-plain zero s h = refl
escape-plain (suc n) [] h = absurd (omega arith)
escape-plain (suc n) (x ∷ s) h =
    elim (is_plain x) as (λ b. is_plain x ≡ b → suc n ≤ cond b (1 + prefix_len is_plain s) 0 → escape (take (suc n) (x ∷ s)) ≡ take (suc n) (x ∷ s)) [
      | true ↦ λ e g i. plain_byte x e i ++ escape-plain n s (omega arith) i
      | false ↦ λ e g. absurd (omega arith)
    ] refl h
