-- Pieces, one after another, and that bytes bring one list of messages.
use Rattle.std.proofs.Common.{◌≡◌, ℕ, ◌+◌, ◌-◌, ◌<◌, ◌≤◌, Bool, true, false, List, [], ◌∷◌, ◌++◌, length, take, drop, refl, sym, ap, subst, ◌∙◌, append_assoc, append-nil, arith, inl, inr, length-append, length-drop, true≢false, ◌==◌, min}
use Rattle.std.specs.Prelude.{Option, None, Some, OnSome, is_some, ◌⊎◌}
use Rattle.std.specs.List.{AllByRecursion}
use Rattle.std.specs.Int.{from_be_bytes, w32}
use Rattle.std.proofs.lemmas.Grind.{flat_map-append}
use Rattle.std.proofs.lemmas.List.{take_all, take-append-le, drop-append-le}
use Rattle.std.proofs.Math.Seq.{take-append_seam, take-append-add}
use Rattle.std.proofs.lemmas.Bool.{cases_lt}
use Rattle.std.proofs.lemmas.Bool.Decides.{nat_tests}
use Rattle.ty_base.specs.declared.limits.TheConstants.{BODY_BYTES, INPUT_BYTES}
use Rattle.ty_wire.specs.Wire.{frame, frames, IsWire, IsJson, Spells}
use Rattle.ty_wire.specs.Stream.{told_len, body_at, IsPart, HasBody, IsBad, Reads, Breaks, IsFault, Brings, read_part, FramesStandBy, FramesStand}
use Rattle.ty_wire.specs.steps.Frames.{EndsWith, IsTaken, IsFed, ended_by}
use Rattle.ty_wire.specs.declared.message.Msg.{Msg}
use Rattle.ty_wire.specs.Held.{FramesHeld}
use Rattle.ty_wire.specs.declared.fault.WireFault.{WireFault}
use Rattle.ty_wire.specs.declared.fault.WireFault.TheVariants.{TooLong, NotJson, Shape, TooMuch}
use Rattle.ty_wire.proofs.Sent.{all-append}
use Rattle.ty_wire.proofs.Fronts.{stuck_part, stuck_bad, one_reading}

-- a piece that ends before byte number 2^40, or that is cut there
pub breaks-by : (w : WireFault) (bytes : List ℕ) (ms : List Msg) (rest : List ℕ) → read_part bytes ≡ frames ms ++ rest → AllByRecursion IsWire ms → IsBad (length ms + 1) rest w → IsFault bytes ms w
breaks-by (TooLong n len) bytes ms rest e a b = record { rest = rest; whole = e; each = a; bad = b }
breaks-by (NotJson n) bytes ms rest e a b = record { rest = rest; whole = e; each = a; bad = b }
breaks-by (Shape n) bytes ms rest e a b = record { rest = rest; whole = e; each = a; bad = b }
breaks-by TooMuch bytes ms rest e a b = absurd b

part-all : (front back : List ℕ) → length front < INPUT_BYTES → length back ≡ 0 ⊎ length front ≡ INPUT_BYTES - 1 → read_part (front ++ back) ≡ front
part-all front [] h o = ap read_part (append-nil front) ∙ take_all (INPUT_BYTES - 1) front (omega arith)
part-all front (x ∷ back) h (inl z) = absurd (omega arith)
part-all front (x ∷ back) h (inr z) = let P : ℕ → Type 0 = λ k. take k (front ++ x ∷ back) ≡ front in subst P z (take-append_seam front (x ∷ back))

stands_by : (w : Option WireFault) (over : Bool) (new : FramesHeld) (front back : List ℕ) (ms : List Msg) (rest : List ℕ)
    → length front < INPUT_BYTES → (over ≡ true → (length front ≡ INPUT_BYTES - 1) × (0 < length back)) → (over ≡ false → length back ≡ 0)
    → front ≡ frames ms ++ rest → AllByRecursion IsWire ms → EndsWith w (length ms + 1) rest
    → (over ≡ false → w ≡ None → new.rest ≡ rest) → new.count ≡ length ms → new.seen ≡ length front → new.fault ≡ ended_by over w
    → FramesStandBy (ended_by over w) new (front ++ back) ms
stands_by None true new front back ms rest l o u e a p r c s f =
    (omega (arith, length-append front back, o refl), (rest, record { whole = part-all front back l (inr (o refl).0) ∙ e; each = a; part = p }))
stands_by None false new front [] ms rest l o u e a p r c s f =
    let P : List ℕ → Type 0 = λ t. Reads (front ++ []) ms t in
    record { reads = subst P (sym (r refl refl)) (record { whole = append-nil front ∙ e; each = a; part = p }); count = c; seen = s ∙ ap length (sym (append-nil front)); short = omega (arith, ap length (append-nil front)) }
stands_by None false new front (x ∷ back) ms rest l o u e a p r c s f = absurd (let z : length (x ∷ back) ≡ 0 = u refl in omega arith)
stands_by (Some w) true new front back ms rest l o u e a p r c s f = breaks-by w (front ++ back) ms rest (part-all front back l (inr (o refl).0) ∙ e) a p
stands_by (Some w) false new front back ms rest l o u e a p r c s f = breaks-by w (front ++ back) ms rest (part-all front back l (inl (u refl)) ∙ e) a p

pub fed : (old mid new : FramesHeld) (front back piece : List ℕ) (ns : List Msg) (over : Bool) → piece ≡ front ++ back → old.seen + length front < INPUT_BYTES
    → (over ≡ true → (old.seen + length front ≡ INPUT_BYTES - 1) × (0 < length back)) → (over ≡ false → length back ≡ 0)
    → IsTaken old mid front ns → (over ≡ false → new.rest ≡ mid.rest) → new.count ≡ mid.count → new.seen ≡ mid.seen → new.fault ≡ ended_by over mid.fault → new.spent ≡ mid.spent
    → IsFed old new piece ns
fed old mid new front back piece ns over whole l o u t r c s f p = (
  p ∙ t.spent,
  λ bytes ms i.
      let seen : old.seen ≡ length bytes = i.seen in
      let count : old.count ≡ length ms = i.count in
      let all : List ℕ = bytes ++ front in
      let len : length all ≡ old.seen + length front = length-append bytes front ∙ omega arith in
      let same : all ≡ frames (ms ++ ns) ++ t.rest =
      ap (λ (b : List ℕ). b ++ front) i.reads.whole ∙ append_assoc (frames ms) old.rest front ∙ ap (λ (b : List ℕ). frames ms ++ b) t.same ∙ sym (append_assoc (frames ms) (frames ns) t.rest) ∙ ap (λ (b : List ℕ). b ++ t.rest) (sym (flat_map-append frame ms ns)) in
      let long : length (ms ++ ns) ≡ length ms + length ns = length-append ms ns in
      let K : ℕ → Type 0 = λ k. EndsWith mid.fault k t.rest in
      let ends : EndsWith mid.fault (length (ms ++ ns) + 1) t.rest = subst K (omega arith) t.ends in
      let by : FramesStandBy (ended_by over mid.fault) new (all ++ back) (ms ++ ns) =
      stands_by mid.fault over new all back (ms ++ ns) t.rest (omega arith) (λ v. (omega (arith, (o v).0), (o v).1)) u same (all-append ms ns i.reads.each t.each) ends (λ v q. r v ∙ t.left q) (c ∙ t.count ∙ omega arith) (s ∙ t.seen ∙ sym len) f in
      let P : Option WireFault → Type 0 = λ w. FramesStandBy w new (all ++ back) (ms ++ ns) in
      let Q : List ℕ → Type 0 = λ b. FramesStandBy new.fault new b (ms ++ ns) in
      subst Q (append_assoc bytes front back ∙ ap (λ (b : List ℕ). bytes ++ b) (sym whole)) (subst P (sym f) by),
)

pub over : (e : Bool) (k f s p : ℕ) → e ≡ (k == 0) → f ≡ min p (INPUT_BYTES - 1 - s) → k + f ≡ p → s < INPUT_BYTES → e ≡ false → (s + f ≡ INPUT_BYTES - 1) × (0 < k)
over true k f s p e m l h n = absurd (true≢false n)
over false k f s p e m l h n = let z : 0 < k = grind (arith, nat_tests) in (omega arith, z)

pub ended-not : (o : Option WireFault) → o ≡ ended_by false o
ended-not None = refl
ended-not (Some w) = refl

pub not-over : (e : Bool) (k : ℕ) → e ≡ (k == 0) → e ≡ true → k ≡ 0
not-over true k e n = grind (arith, nat_tests)
not-over false k e n = absurd (true≢false (sym n))

-- ---- a fault stays

pub told_len-more : (rest extra : List ℕ) → 4 ≤ length rest → told_len (rest ++ extra) ≡ told_len rest
told_len-more rest extra h = ap (from_be_bytes w32) (take-append-le 4 rest extra h)

has-more : (rest extra : List ℕ) → HasBody rest → HasBody (rest ++ extra)
has-more rest extra h =
    let e : told_len (rest ++ extra) ≡ told_len rest = told_len-more rest extra h.head in
    record { head = omega (arith, length-append rest extra, h.head); short = omega (arith, e, h.short); whole = omega (arith, e, length-append rest extra, h.whole) }

body_at-more : (rest extra : List ℕ) → HasBody rest → body_at (rest ++ extra) ≡ body_at rest
body_at-more rest extra h =
    ap (λ (k : ℕ). take k (drop 4 (rest ++ extra))) (told_len-more rest extra h.head)
    ∙ ap (take (told_len rest)) (drop-append-le 4 rest extra h.head)
    ∙ take-append-le (told_len rest) (drop 4 rest) extra (omega (arith, length-drop 4 rest, h.whole))

pub bad-more : (w : WireFault) (k : ℕ) (rest extra : List ℕ) → IsBad k rest w → IsBad k (rest ++ extra) w
bad-more (TooLong n len) k rest extra h =
    let e : told_len (rest ++ extra) ≡ told_len rest = told_len-more rest extra h.2 in
    (h.0, h.1 ∙ sym e, omega (arith, length-append rest extra, h.2), omega (arith, e, h.3))
bad-more (NotJson n) k rest extra h =
    let P : List ℕ → Type 0 = λ t. ¬ (IsJson t) in
    (h.0, has-more rest extra h.1, subst P (sym (body_at-more rest extra h.1)) h.2)
bad-more (Shape n) k rest extra h =
    let P : List ℕ → Type 0 = λ t. IsJson t in
    let Q : List ℕ → Type 0 = λ t. (m : Msg) → ¬ (Spells t m) in
    (h.0, has-more rest extra h.1, subst P (sym (body_at-more rest extra h.1)) h.2, subst Q (sym (body_at-more rest extra h.1)) h.3)
bad-more TooMuch k rest extra h = h

read_part-more : (bytes more : List ℕ) → (extra : List ℕ) × (read_part (bytes ++ more) ≡ read_part bytes ++ extra)
read_part-more bytes more =
    elim (cases_lt (length bytes) (INPUT_BYTES - 1)) [
      | inl lt ↦ (
        take (INPUT_BYTES - 1 - length bytes) more,
        ap (λ (k : ℕ). take k (bytes ++ more)) (let e : INPUT_BYTES - 1 ≡ length bytes + (INPUT_BYTES - 1 - length bytes) = omega arith in e)
            ∙ take-append-add bytes more (INPUT_BYTES - 1 - length bytes)
            ∙ ap (λ (l : List ℕ). l ++ take (INPUT_BYTES - 1 - length bytes) more) (sym (take_all (INPUT_BYTES - 1) bytes (omega arith))),
      )
      | inr le ↦ ([], take-append-le (INPUT_BYTES - 1) bytes more le ∙ sym (append-nil (read_part bytes)))
    ]

breaks-more : (w : WireFault) (bytes more : List ℕ) (ms : List Msg) → Breaks (read_part bytes) ms w → Breaks (read_part (bytes ++ more)) ms w
breaks-more w bytes more ms b =
    let x = read_part-more bytes more in
    record {
      rest = b.rest ++ x.0;
      whole = x.1 ∙ ap (λ (l : List ℕ). l ++ x.0) b.whole ∙ append_assoc (frames ms) b.rest x.0;
      each = b.each;
      bad = bad-more w (length ms + 1) b.rest x.0 b.bad;
    }

pub fault-more : (w : WireFault) (bytes more : List ℕ) (ms : List Msg) → IsFault bytes ms w → IsFault (bytes ++ more) ms w
fault-more (TooLong n len) bytes more ms h = breaks-more (TooLong n len) bytes more ms h
fault-more (NotJson n) bytes more ms h = breaks-more (NotJson n) bytes more ms h
fault-more (Shape n) bytes more ms h = breaks-more (Shape n) bytes more ms h
fault-more TooMuch bytes more ms h =
    let e : read_part (bytes ++ more) ≡ read_part bytes = take-append-le (INPUT_BYTES - 1) bytes more (omega (arith, h.0)) in
    let P : List ℕ → Type 0 = λ l. Reads l ms h.1.0 in
    (omega (arith, length-append bytes more, h.0), (h.1.0, subst P (sym e) h.1.1))

still-by : (o : Option WireFault) (f : FramesHeld) (bytes more : List ℕ) (ms : List Msg) → is_some o ≡ true → FramesStandBy o f bytes ms → FramesStandBy o f (bytes ++ more) ms
still-by None f bytes more ms s h = absurd (true≢false (sym s))
still-by (Some w) f bytes more ms s h = fault-more w bytes more ms h

pub still : (f : FramesHeld) (bytes more : List ℕ) (ms ns : List Msg) → is_some f.fault ≡ true → ns ≡ [] → FramesStand f bytes ms → FramesStand f (bytes ++ more) (ms ++ ns)
still f bytes more ms ns s e h =
    let P : List Msg → Type 0 = λ l. FramesStandBy f.fault f (bytes ++ more) l in
    (h.0, subst P (sym (ap (λ (l : List Msg). ms ++ l) e ∙ append-nil ms)) (still-by f.fault f bytes more ms s h.1))

-- ---- bytes bring one list of messages and one end

part_bad : (k : ℕ) (rest : List ℕ) (w : WireFault) → IsPart rest → IsBad k rest w → ⊥
part_bad k rest (TooLong n len) (inl l) b = absurd (omega (arith, b.2))
part_bad k rest (TooLong n len) (inr l) b = absurd (omega (arith, b.3, l.0))
part_bad k rest (NotJson n) (inl l) b = absurd (omega (arith, b.1.head))
part_bad k rest (NotJson n) (inr l) b = absurd (omega (arith, b.1.whole, l.1))
part_bad k rest (Shape n) (inl l) b = absurd (omega (arith, b.1.head))
part_bad k rest (Shape n) (inr l) b = absurd (omega (arith, b.1.whole, l.1))
part_bad k rest TooMuch p b = b

one_bad : (k : ℕ) (rest : List ℕ) (v w : WireFault) → IsBad k rest v → IsBad k rest w → v ≡ w
one_bad k rest (TooLong n len) (TooLong n' len') a b = let p : n ≡ n' = a.0 ∙ sym b.0 in let q : len ≡ len' = a.1 ∙ sym b.1 in cc
one_bad k rest (TooLong n len) (NotJson n') a b = absurd (omega (arith, a.3, b.1.short))
one_bad k rest (TooLong n len) (Shape n') a b = absurd (omega (arith, a.3, b.1.short))
one_bad k rest (TooLong n len) TooMuch a b = absurd b
one_bad k rest (NotJson n) (TooLong n' len) a b = absurd (omega (arith, b.3, a.1.short))
one_bad k rest (NotJson n) (NotJson n') a b = let p : n ≡ n' = a.0 ∙ sym b.0 in cc
one_bad k rest (NotJson n) (Shape n') a b = absurd (a.2 b.2)
one_bad k rest (NotJson n) TooMuch a b = absurd b
one_bad k rest (Shape n) (TooLong n' len) a b = absurd (omega (arith, b.3, a.1.short))
one_bad k rest (Shape n) (NotJson n') a b = absurd (b.2 a.2)
one_bad k rest (Shape n) (Shape n') a b = let p : n ≡ n' = a.0 ∙ sym b.0 in cc
one_bad k rest (Shape n) TooMuch a b = absurd b
one_bad k rest TooMuch w a b = absurd a

pub one_reads : (bytes : List ℕ) (ms ns : List Msg) (x y : List ℕ) → Reads bytes ms x → Reads bytes ns y → (ms ≡ ns) × (x ≡ y)
one_reads bytes ms ns x y a b = one_reading ms ns x y a.each b.each (stuck_part x a.part) (stuck_part y b.part) (sym a.whole ∙ b.whole)

reads_breaks : (bytes : List ℕ) (ms ns : List Msg) (x : List ℕ) (w : WireFault) → Reads bytes ms x → Breaks bytes ns w → ⊥
reads_breaks bytes ms ns x w a b =
    let r = one_reading ms ns x b.rest a.each b.each (stuck_part x a.part) (stuck_bad (length ns + 1) b.rest w b.bad) (sym a.whole ∙ b.whole) in
    let P : List ℕ → Type 0 = IsPart in
    part_bad (length ns + 1) b.rest w (subst P r.1 a.part) b.bad

one_breaks : (bytes : List ℕ) (ms ns : List Msg) (v w : WireFault) → Breaks bytes ms v → Breaks bytes ns w → (ms ≡ ns) × (v ≡ w)
one_breaks bytes ms ns v w a b =
    let r = one_reading ms ns a.rest b.rest a.each b.each (stuck_bad (length ms + 1) a.rest v a.bad) (stuck_bad (length ns + 1) b.rest w b.bad) (sym a.whole ∙ b.whole) in
    let P : List Msg → Type 0 = λ l. IsBad (length l + 1) a.rest v in
    let Q : List ℕ → Type 0 = λ l. IsBad (length ns + 1) l v in
    (r.0, one_bad (length ns + 1) b.rest v w (subst Q r.1 (subst P r.0 a.bad)) b.bad)

-- a fault other than `TooMuch`, or `TooMuch`
cause : (w : WireFault) (bytes : List ℕ) (ms : List Msg) → IsFault bytes ms w → Breaks (read_part bytes) ms w ⊎ ((w ≡ TooMuch) × (INPUT_BYTES ≤ length bytes) × ((rest : List ℕ) × Reads (read_part bytes) ms rest))
cause (TooLong n len) bytes ms h = inl h
cause (NotJson n) bytes ms h = inl h
cause (Shape n) bytes ms h = inl h
cause TooMuch bytes ms h = inr (refl, h.0, h.1)

one_fault : (v w : WireFault) (bytes : List ℕ) (ms ns : List Msg) → IsFault bytes ms v → IsFault bytes ns w → (ms ≡ ns) × (v ≡ w)
one_fault v w bytes ms ns a b =
    elim (cause v bytes ms a) [
      | inl p ↦ elim (cause w bytes ns b) [
        | inl q ↦ one_breaks (read_part bytes) ms ns v w p q
        | inr q ↦ absurd (reads_breaks (read_part bytes) ns ms q.2.0 v q.2.1 p)
      ]
      | inr p ↦ elim (cause w bytes ns b) [
        | inl q ↦ absurd (reads_breaks (read_part bytes) ms ns p.2.0 w p.2.1 q)
        | inr q ↦ ((one_reads (read_part bytes) ms ns p.2.0 q.2.0 p.2.1 q.2.1).0, p.0 ∙ sym q.0)
      ]
    ]

no_fault : (w : WireFault) (bytes : List ℕ) (ms ns : List Msg) → Brings bytes ms None → IsFault bytes ns w → ⊥
no_fault w bytes ms ns a b =
    let e : read_part bytes ≡ bytes = take_all (INPUT_BYTES - 1) bytes (omega (arith, a.0)) in
    let P : List ℕ → Type 0 = λ l. Breaks l ns w in
    elim (cause w bytes ns b) [
      | inl q ↦ reads_breaks bytes ms ns a.1.0 w a.1.1 (subst P e q)
      | inr q ↦ absurd (omega (arith, a.0, q.1))
    ]

pub one_outcome : (bytes : List ℕ) (ms ns : List Msg) (f g : Option WireFault) → Brings bytes ms f → Brings bytes ns g → (ms ≡ ns) × (f ≡ g)
one_outcome bytes ms ns None None a b = ((one_reads bytes ms ns a.1.0 b.1.0 a.1.1 b.1.1).0, refl)
one_outcome bytes ms ns None (Some w) a b = absurd (no_fault w bytes ms ns a b)
one_outcome bytes ms ns (Some v) None a b = absurd (no_fault v bytes ns ms b a)
one_outcome bytes ms ns (Some v) (Some w) a b = let r = one_fault v w bytes ms ns a b in (r.0, ap Some r.1)

-- what a `Frames` stands for, its bytes bring
brings-by : (o : Option WireFault) (f : FramesHeld) (bytes : List ℕ) (ms : List Msg) → FramesStandBy o f bytes ms → Brings bytes ms o
brings-by None f bytes ms h = (h.short, (f.rest, h.reads))
brings-by (Some w) f bytes ms h = h

pub brings : (f : FramesHeld) (bytes : List ℕ) (ms : List Msg) → FramesStand f bytes ms → Brings bytes ms f.fault
brings f bytes ms h = brings-by f.fault f bytes ms h.1

left-by : (o : Option WireFault) (f : FramesHeld) (bytes rest : List ℕ) (ms : List Msg) → o ≡ None → FramesStandBy o f bytes ms → Reads bytes ms rest → f.rest ≡ rest
left-by None f bytes rest ms e h r = (one_reads bytes ms ms f.rest rest h.reads r).1
left-by (Some w) f bytes rest ms e h r = cc

pub left : (f : FramesHeld) (bytes rest : List ℕ) (ms : List Msg) → f.fault ≡ None → FramesStand f bytes ms → Reads bytes ms rest → f.rest ≡ rest
left f bytes rest ms e h r = left-by f.fault f bytes rest ms e h.1 r

-- how much is left

pub left-fault : (o : Option WireFault) (rest : List ℕ) (n : ℕ) → n ≡ length rest → OnSome o (rest ≡ []) → OnSome o (n ≡ 0)
left-fault None rest n e h = tt
left-fault (Some w) rest n e h = e ∙ ap length h

pub on-some : (o : Option WireFault) (rest : List ℕ) → rest ≡ [] → OnSome o (rest ≡ [])
on-some None rest h = tt
on-some (Some w) rest h = h

pub part-most : (rest : List ℕ) → IsPart rest → length rest ≤ BODY_BYTES + 3
part-most rest (inl h) = omega arith
part-most rest (inr h) = omega (arith, h.0, h.1)
