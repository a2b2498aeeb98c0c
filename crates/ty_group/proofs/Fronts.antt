-- The first message of encoded deltas: which deltas it has, and its frame.
use Rattle.std.proofs.Common.{◌≡◌, ℕ, zero, suc, ◌+◌, ◌-◌, ◌<◌, ◌≤◌, Bool, true, false, ◌&&◌, nat_lt, nat_le, List, [], ◌∷◌, ◌++◌, length, take, drop, map, get_or, refl, sym, ap, subst, ◌∙◌, arith, append_assoc, append-nil, length-append}
use Rattle.std.specs.Prelude.{Result, Ok, Err, OnOk}
use Rattle.std.specs.List.{sum_by}
use Rattle.std.proofs.lemmas.List.{length-map, take_more, length-take-le}
use Rattle.std.proofs.lemmas.List.Sums.{sum_by-cons, sum_by_push}
use Rattle.std.proofs.lemmas.Bool.{leb-true}
use Rattle.std.proofs.lemmas.Grind.{flat_map-append}
use Rattle.ty_base.specs.declared.limits.TheConstants.{BODY_BYTES, MESSAGE_DELTAS, VALUE_BYTES}
use Rattle.ty_base.specs.declared.delta.Delta.{Delta}
use Rattle.ty_wire.specs.Wire.{body, frame, frames, deltas_text, parts_fit}
use Rattle.ty_wire.specs.Cut.{weight, cut_on, cut_deltas}
use Rattle.ty_wire.specs.Talk.{kvs_messages}
use Rattle.ty_wire.specs.declared.message.Msg.TheVariants.{Kvs}
use Rattle.ty_wire.proofs.Parts.{begins, front-more, front-ends, front-all, front-fits, Fits}
use Rattle.ty_wire.proofs.Read.{both}
use Rattle.ty_group.specs.declared.mark.Mark.{Mark}
use Rattle.ty_group.specs.declared.mark.Front.{Front}
use Rattle.ty_group.specs.steps.Pieces.{piece, delta_pieces, mark_of, kvs_body, told_in, AreEncoded}
use Rattle.ty_group.specs.Written.{IsWritten, Keeps}
use Rattle.ty_group.specs.steps.Written.{framed, IsFront}
use Rattle.ty_group.proofs.Pieces.{apart, with_comma, message_text, rest, told, encoded}

-- the delta of a mark
at : (ds : List Delta) (n : ℕ) (m : Mark) → n < length ds → m ≡ get_or (map mark_of ds) n m → (d : Delta) × ((d ≡ get_or ds n d) × (m ≡ mark_of d))
at [] n m h e = absurd (omega arith)
at (d ∷ ds) zero m h e = (d, (refl, e))
at (d ∷ ds) (suc n) m h e = at ds n m (omega arith) e

same_at : (xs : List Mark) (n : ℕ) (d e : Mark) → n < length xs → get_or xs n d ≡ get_or xs n e
same_at [] n d e h = absurd (omega arith)
same_at (x ∷ xs) zero d e h = refl
same_at (x ∷ xs) (suc n) d e h = same_at xs n d e (omega arith)

pub mark_is : (text : List ℕ) (marks : List Mark) (n : ℕ) (d : Mark) → AreEncoded text marks → n < length marks → get_or marks n d ≡ get_or (map mark_of (told_in text marks)) n (get_or marks n d)
mark_is text marks n d e h = same_at marks n d (get_or marks n d) h ∙ ap (λ (l : List Mark). get_or l n (get_or marks n d)) e.each

pub counted : (text : List ℕ) (marks : List Mark) → AreEncoded text marks → length marks ≡ length (told_in text marks)
counted text marks e = ap length e.each ∙ length-map (told_in text marks) mark_of

-- a message that is being filled with the first deltas
pub record IsGrowing (ds : List Delta) (count len load : ℕ) : Type 0 where
  pub some : 0 < count
  pub within : count ≤ length ds
  pub text : len ≡ length (delta_pieces (take count ds))
  pub heavy : load ≡ sum_by weight (take count ds)
  pub cut : cut_deltas ds ≡ cut_on (take count ds) (drop count ds)

pub first : (ds : List Delta) (m : Mark) → 0 < length ds → m ≡ get_or (map mark_of ds) 0 m → IsGrowing ds 1 m.len m.weight
first [] m h e = absurd (omega arith)
first (d ∷ ds) m h e = record {
  some = omega arith;
  within = omega arith;
  text = ap (λ (x : Mark). x.len) e ∙ ap length (sym (append-nil (piece d)));
  heavy = ap (λ (x : Mark). x.weight) e ∙ omega (arith, sum_by-cons weight d []);
  cut = begins (d ∷ ds) h;
}

abbrev pub is_taken : ℕ → ℕ → Mark → Bool
is_taken count load m = nat_lt count MESSAGE_DELTAS && nat_le (load + m.weight) VALUE_BYTES

pieces_more : (ds : List Delta) (n : ℕ) (d : Delta) → n < length ds → d ≡ get_or ds n d → length (delta_pieces (take (n + 1) ds)) ≡ length (delta_pieces (take n ds)) + length (piece d)
pieces_more ds n d h e =
    ap (λ (l : List Delta). length (delta_pieces l)) (take_more ds n d h)
    ∙ ap (λ (x : Delta). length (delta_pieces (take n ds ++ x ∷ []))) (sym e)
    ∙ ap length (flat_map-append piece (take n ds) (d ∷ []) ∙ ap (λ (t : List ℕ). delta_pieces (take n ds) ++ t) (append-nil (piece d)))
    ∙ length-append (delta_pieces (take n ds)) (piece d)

pub grows : (ds : List Delta) (count len load : ℕ) (m : Mark) → count < length ds → m ≡ get_or (map mark_of ds) count m → is_taken count load m ≡ true → IsGrowing ds count len load → IsGrowing ds (count + 1) (len + m.len) (load + m.weight)
grows ds n len load m h e t g =
    let a = at ds n m h e in
    let load_is : load + m.weight ≡ load + weight a.0 = ap (λ (x : Mark). load + x.weight) a.1.1 in
    record {
      some = omega arith;
      within = omega arith;
      text = ap (λ (k : ℕ). k + m.len) g.text ∙ ap (λ (x : Mark). length (delta_pieces (take n ds)) + x.len) a.1.1 ∙ sym (pieces_more ds n a.0 h a.1.0);
      heavy = load_is ∙ ap (λ (k : ℕ). k + weight a.0) g.heavy
          ∙ ap (λ (x : Delta). sum_by weight (take n ds) + weight x) a.1.0
          ∙ sym (sum_by_push weight (take n ds) (get_or ds n a.0))
          ∙ ap (sum_by weight) (sym (take_more ds n a.0 h));
      cut = front-more ds n load a.0 h a.1.0 g.heavy (ap (λ (k : ℕ). nat_lt n MESSAGE_DELTAS && nat_le k VALUE_BYTES) (sym load_is) ∙ t) g.cut;
    }

pub ends : (ds : List Delta) (count len load : ℕ) (m : Mark) → count < length ds → m ≡ get_or (map mark_of ds) count m → is_taken count load m ≡ false → IsGrowing ds count len load → IsFront ds (record { count = count; len = len })
ends ds n len load m h e t g =
    let a = at ds n m h e in
    let load_is : load + m.weight ≡ load + weight a.0 = ap (λ (x : Mark). load + x.weight) a.1.1 in
    record {
      some = g.some;
      within = g.within;
      len = g.text;
      cut = front-ends ds n load a.0 h a.1.0 g.heavy (ap (λ (k : ℕ). nat_lt n MESSAGE_DELTAS && nat_le k VALUE_BYTES) (sym load_is) ∙ t) g.cut;
    }

pub all : (ds : List Delta) (count len load : ℕ) → length ds ≤ count → IsGrowing ds count len load → IsFront ds (record { count = count; len = len })
all ds n len load h g = record { some = g.some; within = g.within; len = g.text; cut = front-all ds n h g.cut }

-- ---- its bytes

pub within_text : (n : ℕ) (ds : List Delta) → length (delta_pieces (take n ds)) ≤ length (delta_pieces ds)
within_text n ds = omega (arith, ap length (apart n ds), length-append (delta_pieces (take n ds)) (delta_pieces (drop n ds)))

-- with the next delta too
pub next_within : (ds : List Delta) (n : ℕ) (m : Mark) → n < length ds → m ≡ get_or (map mark_of ds) n m → length (delta_pieces (take n ds)) + m.len ≤ length (delta_pieces ds)
next_within ds n m h e =
    let a = at ds n m h e in
    omega (arith, pieces_more ds n a.0 h a.1.0, ap (λ (x : Mark). x.len) a.1.1, within_text (n + 1) ds)

some_taken : (ds : List Delta) (f : Front) → IsFront ds f → 0 < length (take f.count ds)
some_taken ds f i = omega (arith, i.some, length-take-le f.count ds i.within)

pub has_comma : (ds : List Delta) (f : Front) → IsFront ds f → 0 < f.len
has_comma ds f i = omega (arith, i.len, ap length (with_comma (take f.count ds) (some_taken ds f i)), length-append (deltas_text (take f.count ds)) (44 ∷ []))

pub text_is : (text : List ℕ) (marks : List Mark) (f : Front) → AreEncoded text marks → IsFront (told_in text marks) f → take (f.len - 1) text ≡ deltas_text (take f.count (told_in text marks))
text_is text marks f e i = message_text text marks (told_in text marks) f.count f.len (some_taken (told_in text marks) f i) i.len e

body_fits : (ds : List Delta) → Fits ds → length (body (Kvs ds)) ≤ BODY_BYTES
body_fits ds h = leb-true (length (body (Kvs ds))) BODY_BYTES (both (parts_fit (Kvs ds)) (nat_le (length (body (Kvs ds))) BODY_BYTES) h).1

pub short : (text : List ℕ) (marks : List Mark) (f : Front) → AreEncoded text marks → IsFront (told_in text marks) f → length (kvs_body (take (f.len - 1) text)) ≤ BODY_BYTES
short text marks f e i =
    let ds : List Delta = told_in text marks in
    let P : List ℕ → Type 0 = λ t. length (kvs_body t) ≤ BODY_BYTES in
    subst P (sym (text_is text marks f e i)) (body_fits (take f.count ds) (front-fits ds f.count e.limits i.cut))

pub rest_encoded : (text : List ℕ) (marks : List Mark) (f : Front) → AreEncoded text marks → IsFront (told_in text marks) f → AreEncoded (drop f.len text) (drop f.count marks)
rest_encoded text marks f e i = encoded (drop f.len text) (drop f.count marks) (drop f.count (told_in text marks)) (rest text marks (told_in text marks) f.count f.len i.len e)

pub front_written : (text : List ℕ) (marks : List Mark) (f : Front) (before now : List ℕ) → AreEncoded text marks → IsFront (told_in text marks) f → now ≡ before ++ framed (kvs_body (take (f.len - 1) text))
    → IsWritten (told_in text marks) (told_in (drop f.len text) (drop f.count marks)) before now
front_written text marks f before now e i w =
    let ds : List Delta = told_in text marks in
    let left : List Delta = drop f.count ds in
    let r : told_in (drop f.len text) (drop f.count marks) ≡ left = told (drop f.len text) (drop f.count marks) left (rest text marks ds f.count f.len i.len e) in
    ap (λ (l : List Delta). now ++ frames (kvs_messages l)) r
    ∙ ap (λ (t : List ℕ). t ++ frames (kvs_messages left)) (w ∙ ap (λ (t : List ℕ). before ++ framed (kvs_body t)) (text_is text marks f e i))
    ∙ append_assoc before (frame (Kvs (take f.count ds))) (frames (kvs_messages left))
    ∙ ap (λ (l : List (List Delta)). before ++ frames (map Kvs l)) (sym i.cut)

-- ---- message after message

pub written_more : (ds mid left : List Delta) (before half now : List ℕ) → IsWritten ds mid before half → IsWritten mid left half now → IsWritten ds left before now
written_more ds mid left before half now p q = q ∙ p

pub keeps_more : (before half now : List ℕ) → Keeps before half → Keeps half now → Keeps before now
keeps_more before half now p q = (p.0 ++ q.0, q.1 ∙ ap (λ (t : List ℕ). t ++ q.0) p.1 ∙ append_assoc before p.0 q.0)

pub all_written : (ds : List Delta) (text : List ℕ) (marks : List Mark) (before now : List ℕ) → marks ≡ [] → IsWritten ds (told_in text marks) before now → now ≡ before ++ frames (kvs_messages ds)
unfolding told_in
all_written ds text marks before now e w = sym (append-nil now) ∙ ap (λ (m : List Mark). now ++ frames (kvs_messages (told_in text m))) (sym e) ∙ w

pub on_ok : {A E : Type 0} (r : Result A E) (P : Type 0) → P → OnOk r P
on_ok (Ok x) P p = p
on_ok (Err e) P p = tt
