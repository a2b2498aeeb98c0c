-- The unfinished frame and a piece behind it.
use Rattle.std.proofs.Common.{◌≡◌, ℕ, ◌+◌, ◌≤◌, List, [], ◌∷◌, ◌++◌, length, take, drop, refl, sym, ap, subst, ◌∙◌, append_assoc, append-nil, arith, length-append, inl}
use Rattle.std.specs.Prelude.{Option, None, Some}
use Rattle.std.specs.List.{AllByRecursion}
use Rattle.std.specs.Int.{to_be_bytes, w32}
use Rattle.std.proofs.lemmas.List.{take-append-drop}
use Rattle.ty_base.specs.declared.limits.TheConstants.{BODY_BYTES}
use Rattle.ty_wire.specs.Wire.{body, frame, frames, IsWire}
use Rattle.ty_wire.specs.Stream.{told_len, IsPart, IsBad}
use Rattle.ty_wire.specs.steps.Frames.{EndsWith, IsFirst, IsFound, IsMoved}
use Rattle.ty_wire.proofs.Fronts.{Front, front}
use Rattle.ty_wire.proofs.Stream.{bad-more}
use Rattle.ty_wire.specs.declared.message.Msg.{Msg}
use Rattle.ty_wire.specs.declared.fault.WireFault.{WireFault}
use Rattle.ty_wire.specs.declared.frame.Found.{Found}

pub frame-len : (m : Msg) → length (frame m) ≡ 4 + length (body m)
frame-len m = length-append (to_be_bytes w32 (length (body m))) (body m)

frames-len : (ms : List Msg) → length ms ≤ length (frames ms)
frames-len [] = omega arith
frames-len (m ∷ ms) = omega (arith, length-append (frame m) (frames ms), frame-len m, frames-len ms)

counts : (ms : List Msg) (rest bytes : List ℕ) → bytes ≡ frames ms ++ rest → length ms + length rest ≤ length bytes
counts ms rest bytes e = omega (arith, ap length e, length-append (frames ms) rest, frames-len ms)

none : (xs : List ℕ) → length xs ≤ 0 → xs ≡ []
none [] h = refl
none (x ∷ xs) h = absurd (omega arith)

pub behind_none : {A : Type 0} (now old part whole : List A) → now ≡ old ++ part → old ≡ [] → part ≡ whole → now ≡ whole
behind_none {A} now old part whole p q r = p ∙ ap (λ (l : List A). l ++ part) q ∙ r

-- ---- what a piece becomes

pub read-on : (k : ℕ) (before : List Msg) (bytes kept : List ℕ) (f : Found) → IsFound k before bytes f → f.fault ≡ None → kept ≡ drop f.used bytes
    → IsMoved k (frames before ++ bytes) kept (record { msgs = f.msgs; fault = None })
read-on k before bytes kept f h e q =
    let P : Option WireFault → Type 0 = λ w. EndsWith w (k + length f.msgs + 1) (drop f.used bytes) in
    let part : IsPart (drop f.used bytes) = subst P e h.ends in
    let Q : List ℕ → Type 0 = IsPart in
    record {
      rest = drop f.used bytes;
      each = h.each;
      same = h.same;
      ends = part;
      left = λ _. q;
      gone = tt;
      part = subst Q (sym q) part;
      counted = omega (arith, ap length q, counts f.msgs (drop f.used bytes) (frames before ++ bytes) h.same);
    }

pub read-fault : (k : ℕ) (before : List Msg) (bytes kept : List ℕ) (f : Found) (w : WireFault) → IsFound k before bytes f → f.fault ≡ Some w → kept ≡ []
    → IsMoved k (frames before ++ bytes) kept (record { msgs = f.msgs; fault = Some w })
read-fault k before bytes kept f w h e q =
    let P : Option WireFault → Type 0 = λ o. EndsWith o (k + length f.msgs + 1) (drop f.used bytes) in
    let bad : IsBad (k + length f.msgs + 1) (drop f.used bytes) w = subst P e h.ends in
    let Q : List ℕ → Type 0 = IsPart in
    record {
      rest = drop f.used bytes;
      each = h.each;
      same = h.same;
      ends = bad;
      left = λ n. cc;
      gone = q;
      part = subst Q (sym q) (inl (omega arith));
      counted = omega (arith, ap length q, counts f.msgs (drop f.used bytes) (frames before ++ bytes) h.same);
    }

-- ---- the unfinished frame, completed

joins : (old piece mid : List ℕ) (n : ℕ) → mid ≡ old ++ take n piece → mid ++ drop n piece ≡ old ++ piece
joins old piece mid n e =
    ap (λ (l : List ℕ). l ++ drop n piece) e ∙ append_assoc old (take n piece) (drop n piece) ∙ ap (λ (l : List ℕ). old ++ l) (take-append-drop n piece)

pub ends-bad : (k : ℕ) (old piece mid kept : List ℕ) (n : ℕ) (ms : List Msg) (w : WireFault) → mid ≡ old ++ take n piece → IsBad (k + 1) mid w → kept ≡ [] → ms ≡ []
    → IsMoved k (old ++ piece) kept (record { msgs = ms; fault = Some w })
ends-bad k old piece mid kept n ms w e b q none_read =
    let P : List ℕ → Type 0 = λ l. IsBad (k + 1) l w in
    let bad : IsBad (k + 1) (old ++ piece) w = subst P (joins old piece mid n e) (bad-more w (k + 1) mid (drop n piece) b) in
    let K : ℕ → Type 0 = λ i. IsBad i (old ++ piece) w in
    let A : List Msg → Type 0 = AllByRecursion IsWire in
    let Q : List ℕ → Type 0 = IsPart in
    record {
      rest = old ++ piece;
      each = subst A (sym none_read) tt;
      same = sym (ap (λ (l : List Msg). frames l ++ (old ++ piece)) none_read);
      ends = subst K (omega (arith, ap length none_read)) bad;
      left = λ o. cc;
      gone = q;
      part = subst Q (sym q) (inl (omega arith));
      counted = omega (arith, ap length q, ap length none_read);
    }

pub completed : (old piece mid slice : List ℕ) (n len : ℕ) (m : Msg) (ms : List Msg) → mid ≡ old ++ take n piece → IsFirst mid m len
    → (4 ≤ length mid → told_len mid ≤ BODY_BYTES → length mid ≤ 4 + told_len mid) → ms ≡ m ∷ [] → slice ≡ drop n piece → frames ms ++ slice ≡ old ++ piece
completed old piece mid slice n len m ms e f one q s =
    let g : Front mid m (drop len mid) = front mid m (drop len mid) f.wire f.same in
    let short : length mid ≤ 4 + told_len mid = one (omega (arith, g.len)) (omega (arith, g.told, g.short)) in
    let gone : drop len mid ≡ [] = none (drop len mid) (omega (arith, short, g.told, ap length f.same, length-append (frame m) (drop len mid), frame-len m)) in
    let whole : mid ≡ frame m = f.same ∙ ap (λ (l : List ℕ). frame m ++ l) gone ∙ append-nil (frame m) in
    ap (λ (l : List Msg). frames l ++ slice) q
    ∙ ap (λ (l : List ℕ). l ++ slice) (append-nil (frame m))
    ∙ ap (λ (l : List ℕ). frame m ++ l) s
    ∙ ap (λ (l : List ℕ). l ++ drop n piece) (sym whole)
    ∙ joins old piece mid n e
