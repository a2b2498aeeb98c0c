-- What deltas encoded tell, and how their texts are joined and taken apart.
use Rattle.std.proofs.Common.{◌≡◌, ℕ, zero, suc, ◌+◌, ◌-◌, ◌<◌, true, List, [], ◌∷◌, ◌++◌, length, take, drop, map, get_or, refl, sym, ap, subst, ◌∙◌, arith, append_assoc, append-nil, length-append}
use Rattle.std.specs.Prelude.{Option, option_and_then}
use Rattle.std.specs.List.{AllByRecursion}
use Rattle.std.proofs.Math.Seq.{take-append_seam, drop-append_seam}
use Rattle.std.proofs.lemmas.Grind.{flat_map-append}
use Rattle.std.proofs.lemmas.List.{map-append, take_more, drop-map, take-append-drop}
use Rattle.std.proofs.lemmas.List.Folds.{list_all-append}
use Rattle.serde_json.specs.Data.{Data}
use Rattle.ty_base.specs.declared.delta.Delta.{Delta}
use Rattle.ty_base.specs.Limits.{key_fits, value_fits, deltas_fit}
use Rattle.ty_base.specs.Passing.{delta_passes}
use Rattle.ty_wire.specs.Wire.{delta_text, more_deltas, deltas_text, DeltaHasUtf8}
use Rattle.ty_wire.specs.Cut.{weight}
use Rattle.ty_wire.specs.steps.Members.{msg_of}
use Rattle.ty_wire.specs.declared.message.Msg.TheVariants.{Kvs}
use Rattle.ty_wire.proofs.Members.{msg_of-data_of}
use Rattle.ty_wire.proofs.Parts.{within-drop}
use Rattle.ty_wire.proofs.Read.{read-body, both}
use Rattle.ty_group.specs.declared.mark.Mark.{Mark}
use Rattle.ty_group.specs.steps.Pieces.{piece, delta_pieces, mark_of, deltas_told, told_by, told_in, IsEncoding, AreEncoded}

-- ---- what is told

-- all but the comma
pub front : (x rest : List ℕ) → take (length (x ++ 44 ∷ []) - 1) ((x ++ 44 ∷ []) ++ rest) ≡ x
front x rest =
    ap (λ (n : ℕ). take n ((x ++ 44 ∷ []) ++ rest)) (let e : length (x ++ 44 ∷ []) - 1 ≡ length x = omega (arith, length-append x (44 ∷ [])) in e)
    ∙ ap (take (length x)) (append_assoc x (44 ∷ []) rest) ∙ take-append_seam x (44 ∷ rest)

told_piece : (d : Delta) → (delta_passes key_fits value_fits) d ≡ true → told_by (delta_text d) ≡ d ∷ []
unfolding more_deltas
told_piece d h =
    ap told_by (sym (append-nil (delta_text d)))
    ∙ ap (λ (o : Option Data). deltas_told (option_and_then msg_of o)) (read-body (Kvs (d ∷ [])) (rw h refl))
    ∙ ap deltas_told (msg_of-data_of (Kvs (d ∷ [])))

all_told : (ds : List Delta) → deltas_fit ds ≡ true → told_in (delta_pieces ds) (map mark_of ds) ≡ ds
unfolding told_in
all_told [] w = refl
all_told (d ∷ ds) w =
    let h : ((delta_passes key_fits value_fits) d ≡ true) × (deltas_fit ds ≡ true) = both ((delta_passes key_fits value_fits) d) (deltas_fit ds) w in
    ap (λ (t : List ℕ). told_by t ++ told_in (drop (length (piece d)) (piece d ++ delta_pieces ds)) (map mark_of ds)) (front (delta_text d) (delta_pieces ds))
    ∙ ap (λ (t : List ℕ). told_by (delta_text d) ++ told_in t (map mark_of ds)) (drop-append_seam (piece d) (delta_pieces ds))
    ∙ ap (λ (l : List Delta). l ++ told_in (delta_pieces ds) (map mark_of ds)) (told_piece d h.0)
    ∙ ap (λ (l : List Delta). d ∷ l) (all_told ds h.1)

pub told : (text : List ℕ) (marks : List Mark) (ds : List Delta) → IsEncoding text marks ds → told_in text marks ≡ ds
told text marks ds e = ap (λ (t : List ℕ). told_in t marks) e.same ∙ ap (told_in (delta_pieces ds)) e.each ∙ all_told ds e.limits

pub encoded : (text : List ℕ) (marks : List Mark) (ds : List Delta) → IsEncoding text marks ds → AreEncoded text marks
encoded text marks ds e = let P : List Delta → Type 0 = IsEncoding text marks in subst P (sym (told text marks ds e)) e

-- ---- none, one more, others behind

pub none : (text : List ℕ) (marks : List Mark) → text ≡ [] → marks ≡ [] → IsEncoding text marks []
none text marks e f = record { same = e; each = f; limits = refl; utf8 = tt }

all-append : (xs ys : List Delta) → AllByRecursion DeltaHasUtf8 xs → AllByRecursion DeltaHasUtf8 ys → AllByRecursion DeltaHasUtf8 (xs ++ ys)
all-append [] ys a b = b
all-append (x ∷ xs) ys a b = (a.0, all-append xs ys a.1 b)

pub joined : (text more : List ℕ) (marks others : List Mark) (ds es : List Delta) → IsEncoding text marks ds → IsEncoding more others es → IsEncoding (text ++ more) (marks ++ others) (ds ++ es)
joined text more marks others ds es a b = record {
  same = ap (λ (t : List ℕ). t ++ more) a.same ∙ ap (λ (t : List ℕ). delta_pieces ds ++ t) b.same ∙ sym (flat_map-append piece ds es);
  each = ap (λ (m : List Mark). m ++ others) a.each ∙ ap (λ (m : List Mark). map mark_of ds ++ m) b.each ∙ sym (map-append mark_of ds es);
  limits = list_all-append (delta_passes key_fits value_fits) ds es ∙ rw (a.limits, b.limits) refl;
  utf8 = all-append ds es a.utf8 b.utf8;
}

pub appended : (text more now : List ℕ) (marks others ms : List Mark) → now ≡ text ++ more → ms ≡ marks ++ others → AreEncoded text marks → AreEncoded more others → IsEncoding now ms (told_in text marks ++ told_in more others)
appended text more now marks others ms e f a b =
    let ds : List Delta = told_in text marks ++ told_in more others in
    let P : List ℕ → Type 0 = λ t. IsEncoding t ms ds in
    let Q : List Mark → Type 0 = λ m. IsEncoding (text ++ more) m ds in
    subst P (sym e) (subst Q (sym f) (joined text more marks others (told_in text marks) (told_in more others) a b))

one : (d : Delta) → (delta_passes key_fits value_fits) d ≡ true → DeltaHasUtf8 d → IsEncoding (piece d) (mark_of d ∷ []) (d ∷ [])
one d h u = record { same = sym (append-nil (piece d)); each = refl; limits = rw h refl; utf8 = (u, tt) }

pub pushed : (text : List ℕ) (marks : List Mark) (ds : List Delta) (d : Delta) → (delta_passes key_fits value_fits) d ≡ true → DeltaHasUtf8 d → IsEncoding text marks ds → IsEncoding (text ++ piece d) (marks ++ mark_of d ∷ []) (ds ++ d ∷ [])
pushed text marks ds d h u e = joined text (piece d) marks (mark_of d ∷ []) ds (d ∷ []) e (one d h u)

fits_at : (ds : List Delta) (i : ℕ) (d : Delta) → deltas_fit ds ≡ true → i < length ds → d ≡ get_or ds i d → (delta_passes key_fits value_fits) d ≡ true
fits_at [] i d w h e = absurd (omega arith)
fits_at (x ∷ xs) zero d w h e = ap (delta_passes key_fits value_fits) e ∙ (both ((delta_passes key_fits value_fits) x) (deltas_fit xs) w).0
fits_at (x ∷ xs) (suc i) d w h e = fits_at xs i d (both ((delta_passes key_fits value_fits) x) (deltas_fit xs) w).1 (omega arith) e

-- a delta whose text is behind the others, and its mark
pub one_more : (ds : List Delta) (d : Delta) (text now : List ℕ) (marks ms : List Mark) (len load : ℕ) → (delta_passes key_fits value_fits) d ≡ true → DeltaHasUtf8 d
    → now ≡ text ++ piece d → len ≡ length now - length text → load ≡ weight d → ms ≡ marks ++ record { len = len; weight = load } ∷ []
    → IsEncoding text marks ds → IsEncoding now ms (ds ++ d ∷ [])
one_more ds d text now marks ms len load h u t l o m p =
    let size : len ≡ length (piece d) = omega (arith, l, ap length t, length-append text (piece d)) in
    let mark : ms ≡ marks ++ mark_of d ∷ [] = m ∙ ap (λ (k : ℕ). marks ++ record { len = k; weight = load } ∷ []) size ∙ ap (λ (k : ℕ). marks ++ record { len = length (piece d); weight = k } ∷ []) o in
    let P : List ℕ → Type 0 = λ x. IsEncoding x ms (ds ++ d ∷ []) in
    let Q : List Mark → Type 0 = λ x. IsEncoding (text ++ piece d) x (ds ++ d ∷ []) in
    subst P (sym t) (subst Q (sym mark) (pushed text marks ds d h u p))

-- the next delta of these
pub pushed_next : (ds : List Delta) (i : ℕ) (d : Delta) (text now : List ℕ) (marks ms : List Mark) (len load : ℕ) → deltas_fit ds ≡ true → DeltaHasUtf8 d → i < length ds → d ≡ get_or ds i d
    → now ≡ text ++ piece d → len ≡ length now - length text → load ≡ weight d → ms ≡ marks ++ record { len = len; weight = load } ∷ []
    → IsEncoding text marks (take i ds) → IsEncoding now ms (take (i + 1) ds)
pushed_next ds i d text now marks ms len load w u h e t l o m p =
    let front : take i ds ++ d ∷ [] ≡ take (i + 1) ds = ap (λ (x : Delta). take i ds ++ x ∷ []) e ∙ sym (take_more ds i d h) in
    let P : List Delta → Type 0 = IsEncoding now ms in
    subst P front (one_more (take i ds) d text now marks ms len load (fits_at ds i d w h e) u t l o m p)

-- ---- the rest behind some

all-drop : (n : ℕ) (ds : List Delta) → AllByRecursion DeltaHasUtf8 ds → AllByRecursion DeltaHasUtf8 (drop n ds)
all-drop zero ds u = u
all-drop (suc n) [] u = u
all-drop (suc n) (d ∷ ds) u = all-drop n ds u.1

pub apart : (n : ℕ) (ds : List Delta) → delta_pieces ds ≡ delta_pieces (take n ds) ++ delta_pieces (drop n ds)
apart n ds = ap delta_pieces (sym (take-append-drop n ds)) ∙ flat_map-append piece (take n ds) (drop n ds)

pub rest : (text : List ℕ) (marks : List Mark) (ds : List Delta) (n len : ℕ) → len ≡ length (delta_pieces (take n ds)) → IsEncoding text marks ds → IsEncoding (drop len text) (drop n marks) (drop n ds)
rest text marks ds n len l e = record {
  same = ap (λ (k : ℕ). drop k text) l ∙ ap (drop (length (delta_pieces (take n ds)))) (e.same ∙ apart n ds) ∙ drop-append_seam (delta_pieces (take n ds)) (delta_pieces (drop n ds));
  each = ap (drop n) e.each ∙ drop-map mark_of n ds;
  limits = within-drop n ds e.limits;
  utf8 = all-drop n ds e.utf8;
}

-- ---- the text of a message

behind : (ds : List Delta) → 44 ∷ delta_pieces ds ≡ more_deltas ds ++ 44 ∷ []
unfolding more_deltas
behind [] = refl
behind (d ∷ ds) = ap (λ (t : List ℕ). 44 ∷ t) (append_assoc (delta_text d) (44 ∷ []) (delta_pieces ds) ∙ ap (λ (t : List ℕ). delta_text d ++ t) (behind ds) ∙ sym (append_assoc (delta_text d) (more_deltas ds) (44 ∷ [])))

pub with_comma : (ds : List Delta) → 0 < length ds → delta_pieces ds ≡ deltas_text ds ++ 44 ∷ []
with_comma [] h = absurd (omega arith)
with_comma (d ∷ ds) h = append_assoc (delta_text d) (44 ∷ []) (delta_pieces ds) ∙ ap (λ (t : List ℕ). delta_text d ++ t) (behind ds) ∙ sym (append_assoc (delta_text d) (more_deltas ds) (44 ∷ []))

pub message_text : (text : List ℕ) (marks : List Mark) (ds : List Delta) (n len : ℕ) → 0 < length (take n ds) → len ≡ length (delta_pieces (take n ds)) → IsEncoding text marks ds → take (len - 1) text ≡ deltas_text (take n ds)
message_text text marks ds n len s l e =
    ap (λ (k : ℕ). take (k - 1) text) l
    ∙ ap (take (length (delta_pieces (take n ds)) - 1)) (e.same ∙ apart n ds)
    ∙ ap (λ (t : List ℕ). take (length t - 1) (t ++ delta_pieces (drop n ds))) (with_comma (take n ds) s)
    ∙ front (deltas_text (take n ds)) (delta_pieces (drop n ds))
