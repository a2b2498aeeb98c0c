-- A text that is put into a buffer part by part.
use Rattle.std.proofs.Common.{◌≡◌, ℕ, ◌+◌, ◌-◌, ◌<◌, ◌≤◌, List, [], ◌++◌, length, take, drop, get_or, refl, sym, ap, subst, ◌∙◌, arith, append_assoc, append-nil, length-append, length-take-le, take-add, take-take, take_at, drop_at, drop-drop}
use Rattle.std.specs.List.{prefix_len}
use Rattle.json.specs.Filled.{Placed}
use Rattle.json.specs.Run.{is_plain}
use Rattle.json.specs.Print.{escape_byte, escape}
use Rattle.json.proofs.Printed.Places.{Placed-then}
use Rattle.ty_wire.specs.steps.Placed.{PlacedSoFar, PlacesPart}
use Rattle.ty_wire.proofs.Escapes.{escape-run, escape-next}

pub owes-first : (a : List ℕ) (at : ℕ) (whole : List ℕ) → PlacedSoFar a a at at whole whole
owes-first a at whole = record { bytes = refl; moved = refl; len = refl }

pub owes-step : {a b c : List ℕ} {at i j : ℕ} {whole rest : List ℕ} (piece more : List ℕ) → PlacedSoFar a b at i whole rest → rest ≡ piece ++ more → Placed b c i piece j → PlacedSoFar a c at j whole more
owes-step {a} {b} {c} {at} {i} {j} {whole} {rest} piece more o e p = record {
  bytes = ap (λ l. l ++ more) p.bytes ∙ append_assoc (take i b) piece more ∙ ap (λ l. take i b ++ l) (sym e) ∙ o.bytes;
  moved = omega (arith, p.moved, o.moved, ap length e, length-append piece more);
  len = p.len ∙ o.len;
}

pub owes-end : {a b : List ℕ} {at i : ℕ} {whole rest : List ℕ} → PlacedSoFar a b at i whole rest → rest ≡ [] → Placed a b at whole i
owes-end {a} {b} {at} {i} {whole} {rest} o e = record {
  bytes = sym (append-nil (take i b)) ∙ ap (λ l. take i b ++ l) (sym e) ∙ o.bytes;
  moved = omega (arith, o.moved, ap length e);
  len = o.len;
}

-- of what was put, only the first n bytes count
pub placed-less : {a b xs : List ℕ} {i j : ℕ} (n : ℕ) → i ≤ length a → n ≤ length xs → Placed a b i xs j → Placed a b i (take n xs) (i + n)
placed-less {a} {b} {xs} {i} {j} n within few p =
    let front = length-take-le i a within in
    let cut : take (i + n) (take j b) ≡ take i a ++ take n xs =
    ap (take (i + n)) p.bytes ∙ take-add i n (take i a ++ xs) ∙ (λ k. take_at (take i a) xs i front k ++ take n (drop_at (take i a) xs i front k)) in
    record { bytes = sym (take-take (i + n) j b (omega (arith, p.moved))) ∙ cut; moved = omega (arith, length-take-le n xs few); len = p.len }

-- the first n of what was put, which is a text's first 16 bytes
pub placed-front : {a b : List ℕ} {i : ℕ} (text : List ℕ) (n : ℕ) → i + 16 ≤ length a → 16 ≤ length text → n ≤ 16 → Placed a b i (take 16 text) (i + 16) → Placed a b i (take n text) (i + n)
placed-front {a} {b} {i} text n room long few p =
    subst (λ (l : List ℕ). Placed a b i l (i + n)) (take-take n 16 text few) (placed-less n (omega arith) (omega (arith, length-take-le 16 text long)) p)

-- nothing was put
pub placed-none : (a : List ℕ) (i : ℕ) → Placed a a i [] i
placed-none a i = record { bytes = sym (append-nil (take i a)); moved = omega arith; len = refl }

-- ---- a text in a string

pub part-plain : (a b : List ℕ) (at n : ℕ) (text : List ℕ) → n ≤ prefix_len is_plain text → Placed a b at (take n text) (at + n) → PlacesPart a b at text n (at + n)
part-plain a b at n text h p = record { piece = take n text; split = escape-run n text h; placed = p }

pub part-byte : (a b c : List ℕ) (at n end : ℕ) (text : List ℕ) (x : ℕ) → n < length text → x ≡ get_or text n 0 → n ≤ prefix_len is_plain text
    → Placed a b at (take n text) (at + n) → Placed b c (at + n) (escape_byte x) end → PlacesPart a c at text (n + 1) (at + (end - at))
part-byte a b c at n end text x w e h p q =
    let same : end ≡ at + (end - at) = omega (arith, q.moved) in
    record {
      piece = take n text ++ escape_byte x;
      split = escape-run n text h ∙ ap (λ (l : List ℕ). take n text ++ l) (escape-next text n x w e) ∙ sym (append_assoc (take n text) (escape_byte x) (escape (drop (n + 1) text)));
      placed = subst (Placed a c at (take n text ++ escape_byte x)) same (Placed-then p q);
    }

-- the next part of a text that is owed from `from` on
pub owes-part : (a b c : List ℕ) (at i from n j : ℕ) (text : List ℕ) → PlacedSoFar a b at i (escape text) (escape (drop from text)) → PlacesPart b c i (drop from text) n j → PlacedSoFar a c at j (escape text) (escape (drop (from + n) text))
owes-part a b c at i from n j text o p = owes-step p.piece (escape (drop (from + n) text)) o (p.split ∙ ap (λ (l : List ℕ). p.piece ++ escape l) (drop-drop n from text)) p.placed
