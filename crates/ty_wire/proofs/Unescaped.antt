-- A text that is read back from its escapes, part by part.
use Rattle.std.proofs.Common.{◌≡◌, ℕ, ◌+◌, ◌-◌, ◌/◌, ◌%◌, ◌<◌, ◌≤◌, Bool, true, false, cond, List, [], ◌∷◌, ◌++◌, length, take, drop, get_or, sym, ap, ◌∙◌, arith, append_assoc, append-nil, take-append-drop, length-append, length-take-le, nat_lt}
use Rattle.std.proofs.lemmas.Grind.{flat_map-append}
use Rattle.std.proofs.lemmas.List.{take_rest}
use Rattle.std.specs.List.{prefix_len}
use Rattle.std.specs.Char.{digit_char}
use Rattle.json.specs.Filled.{Placed}
use Rattle.json.specs.Run.{is_plain}
use Rattle.json.specs.Print.{escape_letter, escape_byte, escape}
use Rattle.json.proofs.Printed.Places.{Placed-then}
use Rattle.ty_wire.specs.steps.Placed.{ReadsPart}
use Rattle.ty_wire.proofs.Escapes.{letter-text, self-text, escape-plain}

either-some : (b : Bool) (s t : List ℕ) → 0 < length s → 0 < length t → 0 < length (cond b s t)
either-some true s t p q = p
either-some false s t p q = q

byte-some : (x : ℕ) → 0 < length (escape_byte x)
unfolding escape_byte
byte-some x =
    let letter : List ℕ = 92 ∷ escape_letter x ∷ [] in
    let control : List ℕ = 92 ∷ 117 ∷ 48 ∷ 48 ∷ digit_char (x / 16) ∷ digit_char (x % 16) ∷ [] in
    let of_letter : 0 < length letter = omega arith in
    let of_control : 0 < length control = omega arith in
    let of_self : 0 < length (x ∷ []) = omega arith in
    either-some (nat_lt 0 (escape_letter x)) letter (cond (nat_lt x 32) control (x ∷ [])) of_letter (either-some (nat_lt x 32) control (x ∷ []) of_control of_self)

-- ---- one byte at the front

pub letter-front : (bytes : List ℕ) (x l : ℕ) → 2 ≤ length bytes → get_or bytes 0 0 ≡ 92 → get_or bytes 1 0 ≡ l → l ≡ escape_letter x → 0 < l
    → bytes ≡ escape_byte x ++ take (length bytes - 2) (drop 2 bytes)
letter-front [] x l h a b e p = absurd (omega arith)
letter-front (y ∷ []) x l h a b e p = absurd (omega arith)
letter-front (y ∷ z ∷ s) x l h a b e p =
    ap (λ (k : ℕ). k ∷ z ∷ s) a ∙ ap (λ (k : ℕ). 92 ∷ k ∷ s) b
    ∙ ap (λ (t : List ℕ). t ++ s) (sym (letter-text x l e p))
    ∙ ap (λ (t : List ℕ). escape_byte x ++ t) (sym (take_rest (y ∷ z ∷ s) 2))

pub self-front : (bytes : List ℕ) (x l : ℕ) → get_or bytes 0 0 ≡ x → l ≡ escape_letter x → l ≤ 0 → 32 ≤ x
    → bytes ≡ escape_byte x ++ take (length bytes - 1) (drop 1 bytes)
self-front [] x l a e p q = absurd (omega (arith, a, q))
self-front (y ∷ s) x l a e p q =
    ap (λ (k : ℕ). k ∷ s) a
    ∙ ap (λ (t : List ℕ). t ++ s) (sym (self-text x l e p q))
    ∙ ap (λ (t : List ℕ). escape_byte x ++ t) (sym (take_rest (y ∷ s) 1))

-- ---- parts

plain-split : (bytes : List ℕ) (n : ℕ) → n ≤ prefix_len is_plain bytes → bytes ≡ escape (take n bytes) ++ drop n bytes
plain-split bytes n h = sym (take-append-drop n bytes) ∙ ap (λ (t : List ℕ). t ++ drop n bytes) (sym (escape-plain n bytes h))

pub reads-plain : (a b bytes rest : List ℕ) (at n : ℕ) → n ≤ length bytes → n ≤ prefix_len is_plain bytes → Placed a b at (take n bytes) (at + n) → rest ≡ drop n bytes
    → ReadsPart a b at bytes rest (at + n)
reads-plain a b bytes rest at n w h p e =
    let split : bytes ≡ escape (take n bytes) ++ rest = plain-split bytes n h ∙ ap (λ (t : List ℕ). escape (take n bytes) ++ t) (sym e) in
    record {
      text = take n bytes;
      split = split;
      placed = p;
      less = omega (arith, ap length (sym (take-append-drop n bytes)), length-append (take n bytes) (drop n bytes), length-take-le n bytes w, ap length e);
    }

pub reads-byte : (a b c bytes rest more : List ℕ) (at n x end : ℕ) → n ≤ length bytes → n ≤ prefix_len is_plain bytes → Placed a b at (take n bytes) (at + n) → rest ≡ drop n bytes
    → rest ≡ escape_byte x ++ more → Placed b c (at + n) (x ∷ []) end → ReadsPart a c at bytes more end
reads-byte a b c bytes rest more at n x end w h p e f q =
    let joined : escape (take n bytes) ++ escape_byte x ≡ escape (take n bytes ++ x ∷ []) =
    ap (λ (t : List ℕ). escape (take n bytes) ++ t) (sym (append-nil (escape_byte x))) ∙ sym (flat_map-append escape_byte (take n bytes) (x ∷ [])) in
    record {
      text = take n bytes ++ x ∷ [];
      split = plain-split bytes n h ∙ ap (λ (t : List ℕ). escape (take n bytes) ++ t) (sym e ∙ f) ∙ sym (append_assoc (escape (take n bytes)) (escape_byte x) more)
          ∙ ap (λ (t : List ℕ). t ++ more) joined;
      placed = Placed-then p q;
      less = omega (
        arith,
        ap length (sym (take-append-drop n bytes)),
        length-append (take n bytes) (drop n bytes),
        length-take-le n bytes w,
        ap length e,
        ap length f,
        length-append (escape_byte x) more,
        byte-some x,
        q.moved,
      );
    }

-- what is read back of the rest goes over to the text
pub reads-more : (a b bytes rest more : List ℕ) (at end : ℕ) → bytes ≡ escape (take at a) ++ rest → ReadsPart a b at rest more end → bytes ≡ escape (take end b) ++ more
reads-more a b bytes rest more at end e p =
    e ∙ ap (λ (t : List ℕ). escape (take at a) ++ t) p.split ∙ sym (append_assoc (escape (take at a)) (escape p.text) more)
    ∙ ap (λ (t : List ℕ). t ++ more) (sym (flat_map-append escape_byte (take at a) p.text) ∙ ap escape (sym p.placed.bytes))
