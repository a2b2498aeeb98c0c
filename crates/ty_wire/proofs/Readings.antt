-- Each list of bytes has a reading: messages, and then a fault or none.
use Rattle.std.proofs.Common.{◌≡◌, ℕ, zero, suc, ◌+◌, ◌-◌, ◌<◌, ◌≤◌, true, false, ◌&&◌, nat_le, List, [], ◌∷◌, ◌++◌, length, drop, refl, sym, ap, subst, ◌∙◌, arith, append_assoc, inl, inr, length-take, length-drop, true≢false, le-leb}
use Rattle.std.specs.Prelude.{Option, None, Some}
use Rattle.std.specs.Str.{IsUtf8, is_utf8, bytes_eq}
use Rattle.std.specs.List.{AllByRecursion}
use Rattle.std.proofs.lemmas.Bool.{cases_lt}
use Rattle.std.proofs.lemmas.List.{take_all, get_or-drop}
use Rattle.std.proofs.lemmas.Str.{IsUtf8-from_is_utf8, is_utf8-from_IsUtf8}
use Rattle.std.proofs.lemmas.Slice.Eq.{bytes_eq-Decides}
use Rattle.serde_json.specs.Data.{Data}
use Rattle.serde_json.specs.Read.{read}
use Rattle.ty_base.specs.declared.limits.TheConstants.{BODY_BYTES, INPUT_BYTES}
use Rattle.ty_wire.specs.Wire.{body, frame, frames, parts_fit, IsWire, IsJson, Spells}
use Rattle.ty_wire.specs.Stream.{told_len, body_at, IsPart, HasBody, IsBad, Brings, read_part}
use Rattle.ty_wire.specs.steps.Frames.{IsFirst, EndsWith}
use Rattle.ty_wire.specs.steps.Members.{msg_of}
use Rattle.ty_wire.specs.declared.message.Msg.{Msg}
use Rattle.ty_wire.specs.declared.fault.WireFault.{WireFault}
use Rattle.ty_wire.specs.declared.fault.WireFault.TheVariants.{TooLong, NotJson, Shape, TooMuch}
use Rattle.ty_wire.proofs.Read.{both, told, not_spelled}
use Rattle.ty_wire.proofs.Fronts.{IsBytes, IsBytes-take, first}
use Rattle.ty_wire.proofs.Stream.{breaks-by}

-- ---- a body

data Body (bytes : List ℕ) : Type 0 where
  message : (m : Msg) → Spells bytes m → Body bytes
  no_json : ¬ (IsJson bytes) → Body bytes
  no_shape : IsJson bytes → ((m : Msg) → ¬ (Spells bytes m)) → Body bytes

body_by : (bytes : List ℕ) (d : Data) (o : Option Msg) → length bytes ≤ BODY_BYTES → IsUtf8 bytes → read bytes ≡ Some d → o ≡ msg_of d → Body bytes
body_by bytes d None l u r e = no_shape (u, (d, r)) (λ m s. let f : msg_of d ≡ Some m = told bytes d m r s in cc)
body_by bytes d (Some n) l u r e =
    elim (parts_fit n && bytes_eq (body n) bytes) as (λ b. (parts_fit n && bytes_eq (body n) bytes) ≡ b → Body bytes) [
      | true ↦ λ h.
          let fit = both (parts_fit n) (bytes_eq (body n) bytes) h in
          let same : body n ≡ bytes = (bytes_eq-Decides (body n) bytes).0 fit.1 in
          let short : nat_le (length (body n)) BODY_BYTES ≡ true = le-leb (length (body n)) BODY_BYTES (omega (arith, ap length same, l)) in
          message n (record { utf8 = u; fits = rw (fit.0, short) refl; same = sym same })
      | false ↦ λ h. no_shape (u, (d, r)) (λ m s. not_spelled bytes d n m false r e (sym h) refl s)
    ] refl

body_of : (bytes : List ℕ) → length bytes ≤ BODY_BYTES → Body bytes
body_of bytes l =
    elim (is_utf8 bytes) as (λ b. is_utf8 bytes ≡ b → Body bytes) [
      | true ↦ λ u.
          elim (read bytes) as (λ o. read bytes ≡ o → Body bytes) [
            | Some d ↦ λ r. body_by bytes d (msg_of d) l (IsUtf8-from_is_utf8 bytes u) r refl
            | None ↦ λ r. no_json (λ j. let f : read bytes ≡ Some j.1.0 = j.1.1 in cc)
          ] refl
      | false ↦ λ u. no_json (λ j. true≢false (sym (is_utf8-from_IsUtf8 bytes j.0) ∙ u))
    ] refl

-- ---- what stands at the front

data Next (k : ℕ) (bytes : List ℕ) : Type 0 where
  part : IsPart bytes → Next k bytes
  bad : (w : WireFault) → IsBad k bytes w → Next k bytes
  frame_of : (m : Msg) (len : ℕ) → IsFirst bytes m len → Next k bytes

by_body : (k : ℕ) (bytes : List ℕ) → IsBytes bytes → HasBody bytes → Body (body_at bytes) → Next k bytes
by_body k bytes b h (message m s) = frame_of m (4 + told_len bytes) (first bytes m (told_len bytes) b h.whole refl s)
by_body k bytes b h (no_json j) = bad (NotJson k) (refl, h, j)
by_body k bytes b h (no_shape j s) = bad (Shape k) (refl, h, j, s)

next : (k : ℕ) (bytes : List ℕ) → IsBytes bytes → Next k bytes
next k bytes b =
    elim (cases_lt (length bytes) 4) [
      | inl lt ↦ part (inl lt)
      | inr le ↦ elim (cases_lt BODY_BYTES (told_len bytes)) [
        | inl long ↦ bad (TooLong k (told_len bytes)) (refl, refl, le, long)
        | inr short ↦ elim (cases_lt (length bytes) (4 + told_len bytes)) [
          | inl less ↦ part (inr (short, less))
          | inr more ↦
              let h : HasBody bytes = record { head = le; short = short; whole = more } in
              by_body k bytes b h (body_of (body_at bytes) (omega (arith, length-take (told_len bytes) (drop 4 bytes), short)))
        ]
      ]
    ]

-- ---- all frames

record Reading (k : ℕ) (bytes : List ℕ) : Type 0 where
  ms : List Msg
  fault : Option WireFault
  rest : List ℕ
  whole : bytes ≡ frames ms ++ rest
  each : AllByRecursion IsWire ms
  ends : EndsWith fault (k + length ms) rest

behind : (k : ℕ) (bytes : List ℕ) → IsBytes bytes → ((rest : List ℕ) → length rest < length bytes → IsBytes rest → Reading (k + 1) rest) → Next k bytes → Reading k bytes
behind k bytes b go (part p) = record { ms = []; fault = None; rest = bytes; whole = refl; each = tt; ends = p }
behind k bytes b go (bad w h) =
    let P : ℕ → Type 0 = λ n. IsBad n bytes w in
    record { ms = []; fault = Some w; rest = bytes; whole = refl; each = tt; ends = subst P (omega arith) h }
behind k bytes b go (frame_of m len f) =
    let bytes_behind : IsBytes (drop len bytes) = λ i. subst (λ (x : ℕ). x < 256) (sym (get_or-drop len bytes i 0)) (b (len + i)) in
    let r : Reading (k + 1) (drop len bytes) = go (drop len bytes) (omega (arith, length-drop len bytes, f.some, f.within)) bytes_behind in
    let P : ℕ → Type 0 = λ n. EndsWith r.fault n r.rest in
    record {
      ms = m ∷ r.ms;
      fault = r.fault;
      rest = r.rest;
      whole = f.same ∙ ap (λ (l : List ℕ). frame m ++ l) r.whole ∙ sym (append_assoc (frame m) (frames r.ms) r.rest);
      each = (f.wire, r.each);
      ends = subst P (omega arith) r.ends;
    }

reading : (fuel k : ℕ) (bytes : List ℕ) → length bytes ≤ fuel → IsBytes bytes → Reading k bytes
reading zero k bytes l b = record { ms = []; fault = None; rest = bytes; whole = refl; each = tt; ends = inl (omega arith) }
reading (suc fuel) k bytes l b = behind k bytes b (λ rest short bytes_behind. reading fuel (k + 1) rest (omega (arith, short, l)) bytes_behind) (next k bytes b)

are_bytes : (bytes : List ℕ) → AllByRecursion (λ b. b < 256) bytes → IsBytes bytes
are_bytes [] h i = omega arith
are_bytes (x ∷ xs) h zero = h.0
are_bytes (x ∷ xs) h (suc i) = are_bytes xs h.1 i

Brought : List ℕ → Type 0
Brought bytes = (ms : List Msg) × (f : Option WireFault) × Brings bytes ms f

brought_by : (bytes rest : List ℕ) (ms : List Msg) (w : Option WireFault) → read_part bytes ≡ frames ms ++ rest → AllByRecursion IsWire ms → EndsWith w (1 + length ms) rest → Brought bytes
unfolding Brought
brought_by bytes rest ms None e a h =
    elim (cases_lt (length bytes) INPUT_BYTES) [
      | inl lt ↦ (ms, None, (lt, (rest, record { whole = sym (take_all (INPUT_BYTES - 1) bytes (omega (arith, lt))) ∙ e; each = a; part = h })))
      | inr le ↦ (ms, Some TooMuch, (le, (rest, record { whole = e; each = a; part = h })))
    ]
brought_by bytes rest ms (Some w) e a h =
    let P : ℕ → Type 0 = λ n. IsBad n rest w in
    (ms, Some w, breaks-by w bytes ms rest e a (subst P (omega arith) h))

pub brings-some : (bytes : List ℕ) → AllByRecursion (λ b. b < 256) bytes → (ms : List Msg) × (f : Option WireFault) × Brings bytes ms f
unfolding Brought
brings-some bytes h =
    let front : List ℕ = read_part bytes in
    let r : Reading 1 front = reading (length front) 1 front (omega arith) (IsBytes-take (INPUT_BYTES - 1) bytes (are_bytes bytes h)) in
    brought_by bytes r.rest r.ms r.fault r.whole r.each r.ends
