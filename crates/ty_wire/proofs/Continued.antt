-- A text that is put part by part into a buffer that is lengthened as it is wanted.
use Rattle.std.proofs.Common.{◌≡◌, ℕ, ◌+◌, ◌-◌, ◌<◌, ◌≤◌, List, [], ◌∷◌, ◌++◌, codes, length, take, drop, get_or, refl, sym, ap, ◌∙◌, arith, append_assoc, length-append, length-take, length-take-le, take-add, take-take, drop_at}
use Rattle.std.proofs.lemmas.List.{take-append-le}
use Rattle.json.specs.Filled.{Placed}
use Rattle.ty_base.specs.declared.delta.Delta.{Delta}
use Rattle.ty_wire.specs.Wire.{delta_text, more_deltas, body}
use Rattle.ty_wire.specs.declared.message.Msg.TheVariants.{Kvs}
use Rattle.ty_wire.specs.steps.Placed.{Continued, ContinuedSoFar}
use Rattle.ty_wire.proofs.DeltaTexts.{deltas-first, more-next, more-end}

so-far-step : {a b c : List ℕ} {at i j : ℕ} {whole rest : List ℕ} (piece more : List ℕ) → ContinuedSoFar a b at i whole rest → rest ≡ piece ++ more → Continued b c i piece j → ContinuedSoFar a c at j whole more
so-far-step {a} {b} {c} {at} {i} {j} {whole} {rest} piece more o e p = record {
  bytes = ap (λ (l : List ℕ). l ++ more) p.bytes ∙ append_assoc (take i b) piece more ∙ ap (λ (l : List ℕ). take i b ++ l) (sym e) ∙ o.bytes;
  moved = omega (arith, p.moved, o.moved, ap length e, length-append piece more);
  within = p.within;
}

so-far-none : (a : List ℕ) (at : ℕ) (whole : List ℕ) → at ≤ length a → ContinuedSoFar a a at at whole whole
so-far-none a at whole h = record { bytes = refl; moved = refl; within = h }

so-far-end : {a b c : List ℕ} {at i j : ℕ} {whole rest : List ℕ} (last : List ℕ) → ContinuedSoFar a b at i whole rest → rest ≡ last → Continued b c i last j → Continued a c at whole j
so-far-end {a} {b} {c} {at} {i} {j} {whole} {rest} last o e p = record {
  bytes = p.bytes ∙ ap (λ (l : List ℕ). take i b ++ l) (sym e) ∙ o.bytes;
  moved = omega (arith, p.moved, o.moved, ap length e);
  within = p.within;
}

-- ---- the body of deltas

abbrev pub tail : List ℕ
tail = codes "],\"m\":\"kvs\"}"

abbrev pub left_of : List Delta → ℕ → List ℕ
left_of ds i = more_deltas (drop i ds) ++ tail

body-first : (ds : List Delta) (d : Delta) → 0 < length ds → d ≡ get_or ds 0 d → body (Kvs ds) ≡ (codes "{\"kvs\":[" ++ delta_text d) ++ left_of ds 1
body-first ds d h e =
    ap (λ (l : List ℕ). codes "{\"kvs\":[" ++ (l ++ tail)) (deltas-first ds d h e)
    ∙ ap (λ (l : List ℕ). codes "{\"kvs\":[" ++ l) (append_assoc (delta_text d) (more_deltas (drop 1 ds)) tail)

pub first-put : {a b : List ℕ} {at i : ℕ} (ds : List Delta) (d : Delta) → 0 < length ds → d ≡ get_or ds 0 d → at ≤ length a → Continued a b at (codes "{\"kvs\":[" ++ delta_text d) i → ContinuedSoFar a b at i (body (Kvs ds)) (left_of ds 1)
first-put {a} {b} {at} {i} ds d h e within p =
    so-far-step (codes "{\"kvs\":[" ++ delta_text d) (left_of ds 1) (so-far-none a at (body (Kvs ds)) within) (body-first ds d h e) p

left-next : (ds : List Delta) (i : ℕ) (d : Delta) → i < length ds → d ≡ get_or ds i d → left_of ds i ≡ ((44 ∷ []) ++ delta_text d) ++ left_of ds (i + 1)
left-next ds i d h e =
    ap (λ (l : List ℕ). l ++ tail) (more-next ds i d h e)
    ∙ ap (λ (l : List ℕ). 44 ∷ l) (append_assoc (delta_text d) (more_deltas (drop (i + 1) ds)) tail)

pub next-put : {a b c : List ℕ} {at i j : ℕ} (ds : List Delta) (k : ℕ) (d : Delta) → k < length ds → d ≡ get_or ds k d → ContinuedSoFar a b at i (body (Kvs ds)) (left_of ds k) → Continued b c i ((44 ∷ []) ++ delta_text d) j → ContinuedSoFar a c at j (body (Kvs ds)) (left_of ds (k + 1))
next-put ds k d h e o p = so-far-step ((44 ∷ []) ++ delta_text d) (left_of ds (k + 1)) o (left-next ds k d h e) p

pub tail-put : {a b c : List ℕ} {at i j : ℕ} (ds : List Delta) (k : ℕ) → length ds ≤ k → ContinuedSoFar a b at i (body (Kvs ds)) (left_of ds k) → Continued b c i tail j → Continued a c at (body (Kvs ds)) j
tail-put ds k h o p = so-far-end tail o (ap (λ (l : List ℕ). l ++ tail) (more-end ds k h)) p

-- the room that the next part wants is within that of the whole
pub next-room : {a b : List ℕ} {at i : ℕ} (ds : List Delta) (k : ℕ) (d : Delta) → k < length ds → d ≡ get_or ds k d → ContinuedSoFar a b at i (body (Kvs ds)) (left_of ds k) → i + (1 + length (delta_text d)) ≤ at + length (body (Kvs ds))
next-room ds k d h e o = omega (arith, o.moved, ap length (left-next ds k d h e), length-append (delta_text d) (left_of ds (k + 1)))

-- ---- a part that is put in front of what was put

headed : {a b c : List ℕ} {at end : ℕ} {head xs : List ℕ} (k : ℕ) → k ≤ length a → Continued a b k xs end → Placed b c at head k → drop k c ≡ drop k b → Continued a c at (head ++ xs) end
headed {a} {b} {c} {at} {end} {head} {xs} k within p q same =
    let n : ℕ = length xs in
    let front : take at b ≡ take at a =
    sym (take-take at end b (omega (arith, p.moved, q.moved))) ∙ ap (take at) p.bytes
    ∙ take-append-le at (take k a) xs (omega (arith, length-take-le k a within, q.moved)) ∙ take-take at k a (omega (arith, q.moved)) in
    let split : (l : List ℕ) → take end l ≡ take k l ++ take n (drop k l) = λ l. ap (λ (m : ℕ). take m l) p.moved ∙ take-add k n l in
    let behind : take n (drop k b) ≡ xs =
    sym (drop_at (take k b) (take n (drop k b)) k (length-take-le k b (omega (arith, p.within, p.moved)))) ∙ ap (drop k) (sym (split b) ∙ p.bytes)
    ∙ drop_at (take k a) xs k (length-take-le k a within) in
    record {
      bytes = split c ∙ ap (λ (l : List ℕ). l ++ take n (drop k c)) (q.bytes ∙ ap (λ (l : List ℕ). l ++ head) front)
          ∙ ap (λ (l : List ℕ). (take at a ++ head) ++ l) (ap (take n) same ∙ behind) ∙ append_assoc (take at a) head xs;
      moved = omega (arith, p.moved, q.moved, length-append head xs);
      within = omega (arith, p.within, q.len);
    }

-- what was put behind a place, and a head before it, is what follows the bytes before that
pub behind-head : {a b c : List ℕ} {at end : ℕ} {head xs : List ℕ} (front : List ℕ) (k : ℕ) → take at a ≡ front → Continued a b k xs end → Placed b c at head k → drop k c ≡ drop k b → take end c ≡ front ++ (head ++ xs)
behind-head {a} {b} {c} {at} {end} {head} {xs} front k e p q same =
    let within : k ≤ length a = omega (arith, p.moved, p.within, ap length p.bytes, length-append (take k a) xs, length-take k a, length-take end b) in
    let whole : Continued a c at (head ++ xs) end = headed k within p q same in
    whole.bytes ∙ ap (λ (l : List ℕ). l ++ (head ++ xs)) e
