-- Bytes are heard in one way, and so are connections.
use Rattle.std.proofs.Common.{◌≡◌, ℕ, zero, suc, ◌+◌, ◌-◌, ◌<◌, ◌≤◌, List, [], ◌∷◌, ◌++◌, length, take, drop, refl, sym, ap, subst, ◌∙◌, arith, append_assoc, append-nil, length-append, inl, inr}
use Rattle.std.specs.Prelude.{Option, None, Some, option_map}
use Rattle.std.specs.Option.{option_or}
use Rattle.std.specs.List.{AllByRecursion}
use Rattle.std.proofs.lemmas.Bool.{cases_lt}
use Rattle.std.proofs.lemmas.List.{take_all, take-append-le, take-append-drop}
use Rattle.std.proofs.Math.Seq.{take-append_seam}
use Rattle.ty_base.specs.declared.limits.TheConstants.{INPUT_BYTES}
use Rattle.ty_wire.specs.Wire.{IsWire, frame, frames}
use Rattle.ty_wire.specs.Stream.{Brings, Breaks, read_part}
use Rattle.ty_wire.specs.declared.message.Msg.{Msg}
use Rattle.ty_wire.specs.declared.fault.WireFault.{WireFault}
use Rattle.ty_wire.specs.declared.fault.WireFault.TheVariants.{TooLong, NotJson, Shape, TooMuch}
use Rattle.ty_wire.proofs.Fronts.{IsStuck, stuck_part, stuck_bad, same_front}
use Rattle.ty_wire.proofs.Readings.{brings-some}
use Rattle.ty_wire.proofs.Stream.{fault-more, one_outcome}
use Rattle.ty_client.specs.declared.fault.StreamFault.{StreamFault}
use Rattle.ty_client.specs.declared.fault.StreamFault.TheVariants.{Wire}
use Rattle.ty_client.specs.Places.{place_fault, Judged, judged_by, judged_after, judged}
use Rattle.ty_client.specs.Rebuilt.{Rebuilt, ats, ats_after, last_held}
use Rattle.ty_client.specs.Heard.{Hears, HoldsAfter}
use Rattle.ty_client.proofs.Judging.{ats_more}

-- ---- the messages of more bytes begin with those of fewer

-- frames of messages, and then no frame
record Ends (bytes : List ℕ) (ms : List Msg) : Type 0 where
  rest : List ℕ
  whole : bytes ≡ frames ms ++ rest
  each : AllByRecursion IsWire ms
  stuck : IsStuck rest

broken : (bytes : List ℕ) (ms : List Msg) (w : WireFault) → Breaks bytes ms w → Ends bytes ms
broken bytes ms w b = record { rest = b.rest; whole = b.whole; each = b.each; stuck = stuck_bad (length ms + 1) b.rest w b.bad }

ends : (bytes : List ℕ) (ms : List Msg) (w : Option WireFault) → Brings bytes ms w → Ends (read_part bytes) ms
ends bytes ms None b =
    let r = b.1.1 in
    record { rest = b.1.0; whole = take_all (INPUT_BYTES - 1) bytes (omega (arith, b.0)) ∙ r.whole; each = r.each; stuck = stuck_part b.1.0 r.part }
ends bytes ms (Some TooMuch) b = let r = b.1.1 in record { rest = b.1.0; whole = r.whole; each = r.each; stuck = stuck_part b.1.0 r.part }
ends bytes ms (Some (TooLong n len)) b = broken (read_part bytes) ms (TooLong n len) b
ends bytes ms (Some (NotJson n)) b = broken (read_part bytes) ms (NotJson n) b
ends bytes ms (Some (Shape n)) b = broken (read_part bytes) ms (Shape n) b

Begins : List Msg → List Msg → Type 0
Begins ms ns = (more : List Msg) × (ns ≡ ms ++ more)

begins : (ms ns : List Msg) (x y : List ℕ) → AllByRecursion IsWire ms → AllByRecursion IsWire ns → IsStuck y → frames ms ++ x ≡ frames ns ++ y → Begins ms ns
unfolding Begins
begins [] ns x y a b s e = (ns, refl)
begins (m ∷ ms) [] x y a b s e = absurd (s m (frames ms ++ x) a.0 (sym e ∙ append_assoc (frame m) (frames ms) x))
begins (m ∷ ms) (n ∷ ns) x y a b s e =
    let f = same_front m n (frames ms ++ x) (frames ns ++ y) a.0 b.0 (sym (append_assoc (frame m) (frames ms) x) ∙ e ∙ append_assoc (frame n) (frames ns) y) in
    let r = begins ms ns x y a.1 b.1 s f.1 in
    (r.0, ap (λ (h : Msg). h ∷ ns) (sym f.0) ∙ ap (λ (l : List Msg). m ∷ l) r.1)

part_more : (n : ℕ) (xs ys : List ℕ) → (extra : List ℕ) × (take n (xs ++ ys) ≡ take n xs ++ extra)
part_more zero xs ys = ([], refl)
part_more (suc n) [] ys = (take (suc n) ys, refl)
part_more (suc n) (x ∷ xs) ys = let r = part_more n xs ys in (r.0, ap (λ (l : List ℕ). x ∷ l) r.1)

brings_more : (bytes more : List ℕ) (ms ns : List Msg) (v w : Option WireFault) → Brings bytes ms v → Brings (bytes ++ more) ns w → Begins ms ns
brings_more bytes more ms ns v w a b =
    let p : Ends (read_part bytes) ms = ends bytes ms v a in
    let q : Ends (read_part (bytes ++ more)) ns = ends (bytes ++ more) ns w b in
    let x = part_more (INPUT_BYTES - 1) bytes more in
    begins ms ns (p.rest ++ x.0) q.rest p.each q.each q.stuck
    (sym (append_assoc (frames ms) p.rest x.0) ∙ ap (λ (l : List ℕ). l ++ x.0) (sym p.whole) ∙ sym x.1 ∙ q.whole)

-- ---- what was judged before a fault stays

stopped : (before ms more : List Msg) (f : StreamFault) → (judged_after before ms).fault ≡ Some f → judged_after before (ms ++ more) ≡ judged_after before ms
unfolding judged_after
stopped before [] more f h = cc
stopped before (m ∷ ms) more f h =
    elim (place_fault before m) as (λ o. (judged_by o m (judged_after (before ++ m ∷ []) ms)).fault ≡ Some f → judged_by o m (judged_after (before ++ m ∷ []) (ms ++ more)) ≡ judged_by o m (judged_after (before ++ m ∷ []) ms)) [
      | None ↦ λ g. ap (judged_by None m) (stopped (before ++ m ∷ []) ms more f g)
      | Some x ↦ λ g. refl
    ] h

-- ---- one hearing

Same : List Msg → List Msg → Option StreamFault → Option StreamFault → Type 0
Same ms ns f g = (ms ≡ ns) × (f ≡ g)

-- by what was brought
by : (ms ns : List Msg) (f g : Option StreamFault) (a b : Judged) (v w : Option WireFault) → a ≡ b → v ≡ w → ms ≡ a.good → ns ≡ b.good → f ≡ option_or a.fault (option_map Wire v) → g ≡ option_or b.fault (option_map Wire w) → Same ms ns f g
unfolding Same
by ms ns f g a b v w e d m n p q = (
  m ∙ ap (λ (j : Judged). j.good) e ∙ sym n,
  p ∙ ap (λ (j : Judged). option_or j.fault (option_map Wire v)) e ∙ ap (λ (o : Option WireFault). option_or b.fault (option_map Wire o)) d ∙ sym q,
)

-- a message's fault comes before the wire's
by_place : (ms ns : List Msg) (f g : Option StreamFault) (a b : Judged) (v w : Option WireFault) (x : StreamFault) → a.fault ≡ Some x → b ≡ a → ms ≡ a.good → ns ≡ b.good → f ≡ option_or a.fault (option_map Wire v) → g ≡ option_or b.fault (option_map Wire w) → Same ms ns f g
unfolding Same
by_place ms ns f g a b v w x h e m n p q = (
  m ∙ sym (n ∙ ap (λ (j : Judged). j.good) e),
  p ∙ ap (λ (o : Option StreamFault). option_or o (option_map Wire v)) h ∙ sym (q ∙ ap (λ (j : Judged). option_or j.fault (option_map Wire w)) e ∙ ap (λ (o : Option StreamFault). option_or o (option_map Wire w)) h),
)

no_wire : (o : Option StreamFault) (v : Option WireFault) → None ≡ option_or o (option_map Wire v) → v ≡ None
no_wire None None e = refl
no_wire None (Some w) e = cc
no_wire (Some x) v e = cc

longer : (bytes a b x y : List ℕ) → bytes ≡ a ++ x → x ≡ [] → bytes ≡ b ++ y → length a ≤ length b → b ≡ a
longer bytes a b x [] e z d h = sym (append-nil b) ∙ sym d ∙ e ∙ ap (λ (l : List ℕ). a ++ l) z ∙ append-nil a
longer bytes a b x (c ∷ y) e z d h = absurd (omega (arith, ap length e, ap length z, ap length d, length-append a x, length-append b (c ∷ y), h))

split : (bytes a b x y : List ℕ) → bytes ≡ a ++ x → bytes ≡ b ++ y → length a ≤ length b → b ≡ a ++ drop (length a) b
split bytes a b x y e d h =
    let n : ℕ = length a in
    sym (take-append-drop n b) ∙ ap (λ (l : List ℕ). l ++ drop n b) (sym (take-append-le n b y h) ∙ ap (take n) (sym d ∙ e) ∙ take-append_seam a x)

placed : (ms ns : List Msg) (x : StreamFault) → Begins ms ns → (judged ms).fault ≡ Some x → judged ns ≡ judged ms
unfolding Begins
placed ms ns x (more, e) h = ap judged e ∙ stopped [] ms more x h

-- the front of the first hearing is no longer than that of the second
in_order : (bytes : List ℕ) (ms ns : List Msg) (f g : Option StreamFault) (a : Hears bytes ms f) (b : Hears bytes ns g) → length a.front ≤ length b.front → Same ms ns f g
in_order bytes ms ns f g a b h =
    let more : List ℕ = drop (length a.front) b.front in
    let s : b.front ≡ a.front ++ more = split bytes a.front b.front a.rest b.rest a.whole b.whole h in
    let brought : Brings (a.front ++ more) b.all b.wire = subst (λ (l : List ℕ). Brings l b.all b.wire) s b.brings in
    elim ((judged a.all).fault) as (λ o. (judged a.all).fault ≡ o → Same ms ns f g) [
      | Some x ↦ λ e.
          let m : Begins a.all b.all = brings_more a.front more a.all b.all a.wire b.wire a.brings brought in
          by_place ms ns f g (judged a.all) (judged b.all) a.wire b.wire x e (placed a.all b.all x m e) a.good b.good a.first b.first
      | None ↦ λ e.
          elim (a.wire) as (λ v. a.wire ≡ v → Same ms ns f g) [
            | Some w ↦ λ i.
                let stays : Brings (a.front ++ more) a.all (Some w) = fault-more w a.front more a.all (subst (λ (v : Option WireFault). Brings a.front a.all v) i a.brings) in
                let o = one_outcome (a.front ++ more) a.all b.all (Some w) b.wire stays brought in
                by ms ns f g (judged a.all) (judged b.all) a.wire b.wire (ap judged o.0) (i ∙ o.1) a.good b.good a.first b.first
            | None ↦ λ i.
                let none : f ≡ None = a.first ∙ ap (λ (v : Option StreamFault). option_or v (option_map Wire a.wire)) e ∙ ap (option_map Wire) i in
                let same : b.front ≡ a.front = longer bytes a.front b.front a.rest b.rest a.whole (a.stops none) b.whole h in
                let o = one_outcome a.front a.all b.all a.wire b.wire a.brings (subst (λ (l : List ℕ). Brings l b.all b.wire) same b.brings) in
                by ms ns f g (judged a.all) (judged b.all) a.wire b.wire (ap judged o.0) o.1 a.good b.good a.first b.first
          ] refl
    ] refl

pub once : (bytes : List ℕ) (ms ns : List Msg) (f g : Option StreamFault) → Hears bytes ms f → Hears bytes ns g → (ms ≡ ns) × (f ≡ g)
unfolding Same
once bytes ms ns f g a b =
    elim (cases_lt (length b.front) (length a.front)) [
      | inl lt ↦ let r = in_order bytes ns ms g f b a (omega (arith, lt)) in (sym r.0, sym r.1)
      | inr le ↦ in_order bytes ms ns f g a b le
    ]

-- no fault: all bytes came before byte number 2^40
pub short : (bytes : List ℕ) (ms : List Msg) → Hears bytes ms None → length bytes < INPUT_BYTES
short bytes ms h =
    let b : Brings h.front h.all None = subst (λ (v : Option WireFault). Brings h.front h.all v) (no_wire (judged h.all).fault h.wire h.first) h.brings in
    omega (arith, b.0, ap length h.whole, length-append h.front h.rest, ap length (h.stops refl))

pub held_once : (before : Option Rebuilt) (connections : List (List ℕ)) (x y : Option Rebuilt) → HoldsAfter before connections x → HoldsAfter before connections y → x ≡ y
held_once before [] x y a b = a ∙ sym b
held_once before (bytes ∷ more) x y (ms, f, h, a) (ns, g, k, b) =
    let same : ms ≡ ns = (once bytes ms ns f g h k).0 in
    held_once (last_held before (ats ms)) more x y a (subst (λ (l : List Msg). HoldsAfter (last_held before (ats l)) more y) (sym same) b)

-- ---- a front of bytes rebuilds a front

good_begins : (before xs ys : List Msg) → (later : List Msg) × ((judged_after before (xs ++ ys)).good ≡ (judged_after before xs).good ++ later)
unfolding judged_after
good_begins before [] ys = ((judged_after before ys).good, refl)
good_begins before (m ∷ xs) ys =
    elim (place_fault before m) as (λ o. (later : List Msg) × ((judged_by o m (judged_after (before ++ m ∷ []) (xs ++ ys))).good ≡ (judged_by o m (judged_after (before ++ m ∷ []) xs)).good ++ later)) [
      | None ↦ let r = good_begins (before ++ m ∷ []) xs ys in (r.0, ap (λ (l : List Msg). m ∷ l) r.1)
      | Some f ↦ ([], refl)
    ]

good_front : (ms ns xs ys : List Msg) → Begins xs ys → ms ≡ (judged xs).good → ns ≡ (judged ys).good → Begins ms ns
unfolding Begins
good_front ms ns xs ys (more, e) m n =
    let r = good_begins [] xs more in
    (r.0, n ∙ ap (λ (l : List Msg). (judged l).good) e ∙ r.1 ∙ ap (λ (l : List Msg). l ++ r.0) (sym m))

-- the later hearing stops no earlier
front_later : (bytes more : List ℕ) (ms ns : List Msg) (f g : Option StreamFault) (a : Hears bytes ms f) (b : Hears (bytes ++ more) ns g) → length a.front ≤ length b.front → Begins ms ns
front_later bytes more ms ns f g a b h =
    let x : List ℕ = drop (length a.front) b.front in
    let whole : bytes ++ more ≡ a.front ++ (a.rest ++ more) = ap (λ (l : List ℕ). l ++ more) a.whole ∙ append_assoc a.front a.rest more in
    let s : b.front ≡ a.front ++ x = split (bytes ++ more) a.front b.front (a.rest ++ more) b.rest whole b.whole h in
    let brought : Brings (a.front ++ x) b.all b.wire = subst (λ (l : List ℕ). Brings l b.all b.wire) s b.brings in
    good_front ms ns a.all b.all (brings_more a.front x a.all b.all a.wire b.wire a.brings brought) a.good b.good

-- it stops at a fault that the front has
front_same : (bytes more : List ℕ) (ms ns : List Msg) (f g : Option StreamFault) (a : Hears bytes ms f) (b : Hears (bytes ++ more) ns g) → length b.front < length a.front → Begins ms ns
unfolding Begins
front_same bytes more ms ns f g a b h =
    let within : length a.front ≤ length bytes = omega (arith, ap length a.whole, length-append a.front a.rest) in
    elim g as (λ o. g ≡ o → (later : List Msg) × (ns ≡ ms ++ later)) [
      | None ↦ λ i. absurd (omega (arith, h, within, ap length b.whole, length-append bytes more, length-append b.front b.rest, ap length (b.stops i)))
      | Some x ↦ λ i.
          let inside : Hears bytes ns g = record {
            front = b.front;
            rest = drop (length b.front) bytes;
            whole = split (bytes ++ more) b.front bytes b.rest more b.whole refl (omega (arith, h, within));
            stops = λ n. cc;
            all = b.all;
            wire = b.wire;
            brings = b.brings;
            good = b.good;
            first = b.first;
          } in
          ([], sym (once bytes ms ns f g a inside).0 ∙ sym (append-nil ms))
    ] refl

pub fronts : (bytes more : List ℕ) (ms ns : List Msg) (f g : Option StreamFault) → Hears bytes ms f → Hears (bytes ++ more) ns g → (later : List Rebuilt) × (ats ns ≡ ats ms ++ later)
unfolding Begins
fronts bytes more ms ns f g a b =
    let r : Begins ms ns = elim (cases_lt (length b.front) (length a.front)) [
      | inl lt ↦ front_same bytes more ms ns f g a b lt
      | inr le ↦ front_later bytes more ms ns f g a b le
    ] in
    (ats_after ms r.0, ap ats r.1 ∙ ats_more [] ms r.0)

-- ---- each list of bytes is heard

pub heard_some : (bytes : List ℕ) → AllByRecursion (λ b. b < 256) bytes → (ms : List Msg) × (f : Option StreamFault) × Hears bytes ms f
heard_some bytes h =
    let r = brings-some bytes h in (
      (judged r.0).good,
      option_or (judged r.0).fault (option_map Wire r.1),
      record {
        front = bytes;
        rest = [];
        whole = sym (append-nil bytes);
        stops = λ _. refl;
        all = r.0;
        wire = r.1;
        brings = r.2;
        good = refl;
        first = refl;
      },
    )
