-- What stands at the front of bytes that begin with a frame.
use Rattle.std.proofs.Common.{◌≡◌, ℕ, ◌+◌, ◌<◌, ◌≤◌, true, List, [], ◌∷◌, ◌++◌, length, get_or, take, drop, refl, sym, ap, subst, ◌∙◌, append_assoc, append-nil, arith, inl, inr, length-append, length-drop}
use Rattle.std.specs.Prelude.{nat_le}
use Rattle.std.specs.Str.{IsUtf8}
use Rattle.std.specs.Int.{from_be_bytes, to_be_bytes, w32}
use Rattle.std.specs.List.{AllByRecursion}
use Rattle.std.proofs.lemmas.Bool.{cases_lt}
use Rattle.std.proofs.lemmas.Bool.Decides.{nat_tests}
use Rattle.std.proofs.lemmas.List.{drop-drop, length-take, get_or-take, get_or_past, take-append-drop}
use Rattle.std.proofs.Math.Seq.{take-append_seam, drop-append_seam}
use Rattle.std.proofs.lemmas.Nat.{be_bytes_4, from_be_bytes-to_be_bytes_4}
use Rattle.ty_base.specs.declared.limits.TheConstants.{BODY_BYTES}
use Rattle.ty_wire.specs.Wire.{body, frame, frames, parts_fit, IsWire, IsJson, Spells}
use Rattle.ty_wire.specs.steps.Tokens.{data_of}
use Rattle.ty_wire.specs.Stream.{told_len, body_at, IsPart, IsBad}
use Rattle.ty_wire.specs.steps.Frames.{IsFirst}
use Rattle.ty_wire.specs.declared.message.Msg.{Msg}
use Rattle.ty_wire.specs.declared.fault.WireFault.{WireFault}
use Rattle.ty_wire.specs.declared.fault.WireFault.TheVariants.{TooLong, NotJson, Shape, TooMuch}
use Rattle.ty_wire.proofs.Read.{both, read-body, one_message}

abbrev pub IsBytes : List ℕ → Type 0
IsBytes bytes = (i : ℕ) → get_or bytes i 0 < 256

pub IsBytes-take : (n : ℕ) (bytes : List ℕ) → IsBytes bytes → IsBytes (take n bytes)
IsBytes-take n bytes h i =
    elim (cases_lt i n) [
      | inl lt ↦ rw (get_or-take n bytes i 0 lt) (h i)
      | inr le ↦ rw (get_or_past (take n bytes) i 0 (omega (arith, length-take n bytes))) (omega arith)
    ]

-- ---- reading a frame

pub wire_from : (bytes : List ℕ) (m : Msg) → Spells bytes m → IsWire m
wire_from bytes m s = record { utf8 = subst IsUtf8 s.same s.utf8; fits = s.fits; same = refl }

pub first : (bytes : List ℕ) (m : Msg) (n : ℕ) → IsBytes bytes → 4 + n ≤ length bytes → n ≡ told_len bytes → Spells (take n (drop 4 bytes)) m → IsFirst bytes m (4 + n)
first bytes m n b w e s =
    let len : n ≡ length (body m) = sym (ap length (sym s.same) ∙ length-take n (drop 4 bytes) ∙ omega (arith, length-drop 4 bytes)) in
    let head : to_be_bytes w32 n ≡ take 4 bytes = be_bytes_4 (take 4 bytes) n (omega (arith, length-take 4 bytes)) (IsBytes-take 4 bytes b) e in
    let P : ℕ → Type 0 = λ k. to_be_bytes w32 k ≡ take 4 bytes in
    let front : to_be_bytes w32 (length (body m)) ≡ take 4 bytes = subst P len head in
    record {
      wire = wire_from (take n (drop 4 bytes)) m s;
      some = omega arith;
      within = w;
      same = sym (append_assoc (to_be_bytes w32 (length (body m))) (body m) (drop (4 + n) bytes)
          ∙ ap (λ (h : List ℕ). h ++ (body m ++ drop (4 + n) bytes)) front
          ∙ ap (λ (t : List ℕ). take 4 bytes ++ (t ++ drop (4 + n) bytes)) (sym s.same)
          ∙ ap (λ (t : List ℕ). take 4 bytes ++ (take n (drop 4 bytes) ++ t)) (sym (drop-drop n 4 bytes))
          ∙ ap (λ (t : List ℕ). take 4 bytes ++ t) (take-append-drop n (drop 4 bytes))
          ∙ take-append-drop 4 bytes);
    }

-- ---- a frame at the front

wire-len : (m : Msg) → IsWire m → length (body m) ≤ BODY_BYTES
wire-len m w = let h : nat_le (length (body m)) BODY_BYTES ≡ true = (both (parts_fit m) _ w.fits).1 in grind (arith, nat_tests)

take4 : (h x : List ℕ) → length h ≡ 4 → take 4 (h ++ x) ≡ h
take4 h x e = let P : ℕ → Type 0 = λ k. take k (h ++ x) ≡ h in subst P e (take-append_seam h x)

drop4 : (h x : List ℕ) → length h ≡ 4 → drop 4 (h ++ x) ≡ x
drop4 h x e = let P : ℕ → Type 0 = λ k. drop k (h ++ x) ≡ x in subst P e (drop-append_seam h x)

pub record Front (bytes : List ℕ) (m : Msg) (more : List ℕ) : Type 0 where
  pub told : told_len bytes ≡ length (body m)
  pub text : body_at bytes ≡ body m
  pub len : 4 + length (body m) ≤ length bytes
  pub short : length (body m) ≤ BODY_BYTES

pub front : (bytes : List ℕ) (m : Msg) (more : List ℕ) → IsWire m → bytes ≡ frame m ++ more → Front bytes m more
front bytes m more w e =
    let h : List ℕ = to_be_bytes w32 (length (body m)) in
    let assoc : bytes ≡ h ++ (body m ++ more) = e ∙ append_assoc h (body m) more in
    let short : length (body m) ≤ BODY_BYTES = wire-len m w in
    let told : told_len bytes ≡ length (body m) = ap told_len assoc ∙ ap (from_be_bytes w32) (take4 h (body m ++ more) refl) ∙ from_be_bytes-to_be_bytes_4 (length (body m)) (omega arith) in
    record {
      told = told;
      text = ap (λ (k : ℕ). take k (drop 4 bytes)) told ∙ ap (λ (l : List ℕ). take (length (body m)) (drop 4 l)) assoc ∙ ap (take (length (body m))) (drop4 h (body m ++ more) refl) ∙ take-append_seam (body m) more;
      len = omega (arith, ap length assoc, length-append h (body m ++ more), length-append (body m) more);
      short = short;
    }

-- ---- where no frame of a message stands

abbrev pub IsStuck : List ℕ → Type 0
IsStuck rest = (m : Msg) (more : List ℕ) → IsWire m → rest ≡ frame m ++ more → ⊥

pub stuck_part : (rest : List ℕ) → IsPart rest → IsStuck rest
stuck_part rest (inl h) m more w e = let f : Front rest m more = front rest m more w e in absurd (omega arith)
stuck_part rest (inr (l, h)) m more w e = let f : Front rest m more = front rest m more w e in absurd (omega arith)

pub stuck_bad : (k : ℕ) (rest : List ℕ) (fault : WireFault) → IsBad k rest fault → IsStuck rest
stuck_bad k rest (TooLong n len) h m more w e = let f : Front rest m more = front rest m more w e in absurd (omega (arith, h.3))
stuck_bad k rest (NotJson n) h m more w e =
    let f : Front rest m more = front rest m more w e in
    h.2 (subst IsJson (sym f.text) (w.utf8, (data_of m, read-body m (both (parts_fit m) _ w.fits).0)))
stuck_bad k rest (Shape n) h m more w e =
    let f : Front rest m more = front rest m more w e in
    h.3 m (record { utf8 = subst IsUtf8 (sym f.text) w.utf8; fits = w.fits; same = f.text })
stuck_bad k rest TooMuch h m more w e = h

-- ---- one reading

pub same_front : (m n : Msg) (x y : List ℕ) → IsWire m → IsWire n → frame m ++ x ≡ frame n ++ y → (m ≡ n) × (x ≡ y)
same_front m n x y w v e =
    let f : Front (frame m ++ x) m x = front (frame m ++ x) m x w refl in
    let g : Front (frame m ++ x) n y = front (frame m ++ x) n y v e in
    let same : body m ≡ body n = sym f.text ∙ g.text in
    let mn : m ≡ n = one_message (body m) m n w (record { utf8 = w.utf8; fits = v.fits; same = same }) in
    let P : Msg → Type 0 = λ z. frame m ++ x ≡ frame z ++ y in
    let e' : frame m ++ x ≡ frame m ++ y = subst P (sym mn) e in
    (mn, sym (drop-append_seam (frame m) x) ∙ ap (drop (length (frame m))) e' ∙ drop-append_seam (frame m) y)

-- no frame is a part at the front of another
pub no_prefix : (m n : Msg) (more : List ℕ) → IsWire m → IsWire n → frame m ++ more ≡ frame n → (m ≡ n) × (more ≡ [])
no_prefix m n more w v e = same_front m n more [] w v (e ∙ sym (append-nil (frame n)))

pub one_reading : (ms ns : List Msg) (x y : List ℕ) → AllByRecursion IsWire ms → AllByRecursion IsWire ns → IsStuck x → IsStuck y → frames ms ++ x ≡ frames ns ++ y → (ms ≡ ns) × (x ≡ y)
one_reading [] [] x y a b s t e = (refl, e)
one_reading [] (n ∷ ns) x y a b s t e = absurd (s n (frames ns ++ y) b.0 (e ∙ append_assoc (frame n) (frames ns) y))
one_reading (m ∷ ms) [] x y a b s t e = absurd (t m (frames ms ++ x) a.0 (sym e ∙ append_assoc (frame m) (frames ms) x))
one_reading (m ∷ ms) (n ∷ ns) x y a b s t e =
    let f = same_front m n (frames ms ++ x) (frames ns ++ y) a.0 b.0 (sym (append_assoc (frame m) (frames ms) x) ∙ e ∙ append_assoc (frame n) (frames ns) y) in
    let r = one_reading ms ns x y a.1 b.1 s t f.1 in
    let p : m ≡ n = f.0 in
    let q : ms ≡ ns = r.0 in
    (cc, r.1)
