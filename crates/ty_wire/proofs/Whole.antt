-- Frames read back as their messages, and a front of them as those that end in it.
use Rattle.std.proofs.Common.{◌≡◌, ℕ, zero, suc, ◌+◌, ◌-◌, ◌<◌, ◌≤◌, Bool, List, [], ◌∷◌, ◌++◌, length, take, drop, refl, sym, ap, subst, ◌∙◌, arith, append_assoc, append-nil, length-append, inl, inr}
use Rattle.std.specs.Prelude.{if◌then◌else◌}
use Rattle.std.specs.List.{AllByRecursion}
use Rattle.std.proofs.lemmas.Bool.{cases_lt, le-leb, lt-leb}
use Rattle.std.proofs.lemmas.List.{length-take, take-append-drop}
use Rattle.ty_wire.specs.Wire.{body, frame, frames, IsWire}
use Rattle.ty_wire.specs.Stream.{told_len, IsPart, Reads}
use Rattle.ty_wire.proofs.Fronts.{Front, front}
use Rattle.ty_wire.proofs.Stream.{told_len-more}
use Rattle.ty_wire.proofs.Moved.{frame-len}
use Rattle.ty_wire.specs.declared.message.Msg.{Msg}
use Rattle.ty_wire.specs.Whole.{whole_in}

pub reads-whole : (ms : List Msg) → AllByRecursion IsWire ms → Reads (frames ms) ms []
reads-whole ms w = record { whole = sym (append-nil (frames ms)); each = w; part = inl (omega arith) }

-- a front of a frame is a part
part-of : (m : Msg) (bytes more later : List ℕ) → IsWire m → bytes ++ more ≡ frame m ++ later → length bytes < length (frame m) → IsPart bytes
part-of m bytes more later w e h =
    let f : Front (bytes ++ more) m later = front (bytes ++ more) m later w e in
    elim (cases_lt (length bytes) 4) [
      | inl short ↦ inl short
      | inr long ↦
          let told : told_len bytes ≡ length (body m) = sym (told_len-more bytes more long) ∙ f.told in
          inr (omega (arith, told, f.short), omega (arith, told, frame-len m))
    ]

whole-step : (n : ℕ) (m : Msg) (ms : List Msg) → length (frame m) ≤ n → whole_in n (m ∷ ms) ≡ m ∷ whole_in (n - length (frame m)) ms
unfolding whole_in
whole-step n m ms h = ap (λ (b : Bool). if b then m ∷ whole_in (n - length (frame m)) ms else []) (le-leb (length (frame m)) n h)

whole-stop : (n : ℕ) (m : Msg) (ms : List Msg) → n < length (frame m) → whole_in n (m ∷ ms) ≡ []
unfolding whole_in
whole-stop n m ms h = ap (λ (b : Bool). if b then m ∷ whole_in (n - length (frame m)) ms else []) (lt-leb (length (frame m)) n h)

pub whole-none : (n : ℕ) → whole_in n [] ≡ []
unfolding whole_in
whole-none n = refl

take-past : (xs ys : List ℕ) (n : ℕ) → length xs ≤ n → take n (xs ++ ys) ≡ xs ++ take (n - length xs) ys
take-past [] ys n h = ap (λ (k : ℕ). take k ys) (omega arith)
take-past (x ∷ xs) ys zero h = absurd (omega (arith, h))
take-past (x ∷ xs) ys (suc n) h = ap (λ (l : List ℕ). x ∷ l) (take-past xs ys n (omega (arith, h)) ∙ ap (λ (j : ℕ). xs ++ take j ys) (omega (arith, h)))

pub reads-in : (ms : List Msg) (n : ℕ) → AllByRecursion IsWire ms → n ≤ length (frames ms) → (rest : List ℕ) × Reads (take n (frames ms)) (whole_in n ms) rest
reads-in [] n w h =
    let z : n ≡ 0 = omega arith in
    let P : ℕ → Type 0 = λ k. (rest : List ℕ) × Reads (take k []) (whole_in k []) rest in
    subst P (sym z) ([], record { whole = ap frames (sym (whole-none 0)) ∙ sym (append-nil (frames (whole_in 0 []))); each = subst (AllByRecursion IsWire) (sym (whole-none 0)) tt; part = inl (omega arith) })
reads-in (m ∷ ms) n w h =
    elim (cases_lt n (length (frame m))) [
      | inl lt ↦
          let bytes : List ℕ = take n (frame m ++ frames ms) in
          let len : length bytes < length (frame m) = omega (arith, length-take n (frame m ++ frames ms), lt) in (
            bytes,
            record {
              whole = ap (λ (l : List Msg). frames l ++ bytes) (sym (whole-stop n m ms lt));
              each = subst (AllByRecursion IsWire) (sym (whole-stop n m ms lt)) tt;
              part = part-of m bytes (drop n (frame m ++ frames ms)) (frames ms) w.0 (take-append-drop n (frame m ++ frames ms)) len;
            },
          )
      | inr le ↦
          let r = reads-in ms (n - length (frame m)) w.1 (omega (arith, h, length-append (frame m) (frames ms), le)) in (
            r.0,
            record {
              whole = take-past (frame m) (frames ms) n le
                  ∙ ap (λ (l : List ℕ). frame m ++ l) r.1.whole
                  ∙ sym (append_assoc (frame m) (frames (whole_in (n - length (frame m)) ms)) r.0)
                  ∙ ap (λ (l : List Msg). frames l ++ r.0) (sym (whole-step n m ms le));
              each = subst (AllByRecursion IsWire) (sym (whole-step n m ms le)) (w.0, r.1.each);
              part = r.1.part;
            },
          )
    ]

pub whole-zero : (ms : List Msg) → whole_in 0 ms ≡ []
whole-zero [] = whole-none 0
whole-zero (m ∷ ms) = whole-stop 0 m ms (omega (arith, frame-len m))

pub whole-more : (ms more : List Msg) (n : ℕ) → n ≤ length (frames ms) → whole_in n (ms ++ more) ≡ whole_in n ms
whole-more [] more n h =
    let z : n ≡ 0 = omega arith in
    ap (λ (k : ℕ). whole_in k more) z ∙ whole-zero more ∙ sym (whole-none n)
whole-more (m ∷ ms) more n h =
    elim (cases_lt n (length (frame m))) [
      | inl lt ↦ whole-stop n m (ms ++ more) lt ∙ sym (whole-stop n m ms lt)
      | inr le ↦
          whole-step n m (ms ++ more) le
          ∙ ap (λ (l : List Msg). m ∷ l) (whole-more ms more (n - length (frame m)) (omega (arith, h, length-append (frame m) (frames ms), le)))
          ∙ sym (whole-step n m ms le)
    ]

pub whole-all : (ms : List Msg) → whole_in (length (frames ms)) ms ≡ ms
whole-all [] = whole-none 0
whole-all (m ∷ ms) =
    let n : ℕ = length (frames (m ∷ ms)) in
    let len : n ≡ length (frame m) + length (frames ms) = length-append (frame m) (frames ms) in
    whole-step n m ms (omega (arith, len))
    ∙ ap (λ (l : List Msg). m ∷ l) (ap (λ (k : ℕ). whole_in k ms) (omega (arith, len)) ∙ whole-all ms)

-- fewer bytes show a front of the messages
pub whole-front : (ms : List Msg) (a b : ℕ) → a ≤ b → (more : List Msg) × (whole_in b ms ≡ whole_in a ms ++ more)
whole-front [] a b h = ([], whole-none b ∙ sym (append-nil (whole_in a []) ∙ whole-none a))
whole-front (m ∷ ms) a b h =
    elim (cases_lt a (length (frame m))) [
      | inl lt ↦ (whole_in b (m ∷ ms), ap (λ (l : List Msg). l ++ whole_in b (m ∷ ms)) (sym (whole-stop a m ms lt)))
      | inr le ↦
          let r = whole-front ms (a - length (frame m)) (b - length (frame m)) (omega (arith, h)) in (
            r.0,
            whole-step b m ms (omega (arith, h, le)) ∙ ap (λ (l : List Msg). m ∷ l) r.1 ∙ ap (λ (l : List Msg). l ++ r.0) (sym (whole-step a m ms le)),
          )
    ]
