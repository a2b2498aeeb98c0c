-- The text of deltas, part by part, and how long it is.
use Rattle.std.proofs.Common.{◌≡◌, ℕ, suc, ◌+◌, ◌<◌, ◌≤◌, true, codes, List, [], ◌∷◌, ◌++◌, length, take, drop, get_or, refl, sym, ap, subst, ◌∙◌, arith, length-append, drop-cons, add-one}
use Rattle.std.proofs.lemmas.List.{take_more, drop_all}
use Rattle.json.specs.Print.{escape, quoted}
use Rattle.ty_base.specs.Limits.{deltas_fit}
use Rattle.ty_base.specs.declared.delta.Delta.{Delta}
use Rattle.ty_wire.specs.Wire.{kind_text, value_text, delta_text, more_deltas, deltas_text, body, DeltaHasUtf8}
use Rattle.ty_wire.specs.declared.message.Msg.TheVariants.{Kvs}
use Rattle.ty_wire.proofs.Parts.{both_of, delta_fits, within-drop}
use Rattle.ty_wire.proofs.Utf8.{AllUtf8, one-more}

quoted-size : (s : List ℕ) → length (quoted s) ≡ length (escape s) + 2
quoted-size s = omega (arith, length-append (escape s) (34 ∷ []))

pub value-size : (v : List ℕ) → length (codes ",\"value\":" ++ quoted v) ≡ length (escape v) + 11
value-size v = omega (arith, quoted-size v)

pub delta-size : (d : Delta) → length (delta_text d) ≡ length (escape d.key) + length (kind_text d.kind) + length (value_text d.value) + 20
delta-size d =
    let key : List ℕ = quoted d.key in
    let kind : List ℕ = kind_text d.kind in
    let value : List ℕ = value_text d.value in
    omega (
      arith,
      length-append key (codes ",\"type\":\"" ++ (kind ++ (codes "\"" ++ (value ++ codes "}")))),
      length-append kind (codes "\"" ++ (value ++ codes "}")),
      length-append value (codes "}"),
      quoted-size d.key,
    )

pub body-size : (ds : List Delta) → length (body (Kvs ds)) ≡ length (deltas_text ds) + 20
body-size ds = omega (arith, length-append (deltas_text ds) (codes "],\"m\":\"kvs\"}"))

pub deltas-size : (ds : List Delta) → 0 < length ds → length (more_deltas ds) ≡ length (deltas_text ds) + 1
unfolding more_deltas
deltas-size [] h = absurd (omega arith)
deltas-size (d ∷ ds) h = omega arith

pub more-next : (ds : List Delta) (i : ℕ) (d : Delta) → i < length ds → d ≡ get_or ds i d → more_deltas (drop i ds) ≡ (44 ∷ []) ++ (delta_text d ++ more_deltas (drop (i + 1) ds))
unfolding more_deltas
more-next ds i d h e =
    ap more_deltas (drop-cons ds i d h) ∙ ap (λ (x : Delta). 44 ∷ (delta_text x ++ more_deltas (drop (suc i) ds))) (sym e)
    ∙ ap (λ (k : ℕ). 44 ∷ (delta_text d ++ more_deltas (drop k ds))) (sym (add-one i))

pub more-next-len : (ds : List Delta) (i : ℕ) (d : Delta) → i < length ds → d ≡ get_or ds i d → length (more_deltas (drop i ds)) ≡ length (delta_text d) + length (more_deltas (drop (i + 1) ds)) + 1
more-next-len ds i d h e = omega (arith, ap length (more-next ds i d h e), length-append (delta_text d) (more_deltas (drop (i + 1) ds)))

no-more : more_deltas [] ≡ []
unfolding more_deltas
no-more = refl

pub more-end : (ds : List Delta) (i : ℕ) → length ds ≤ i → more_deltas (drop i ds) ≡ []
more-end ds i h = ap more_deltas (drop_all i ds h) ∙ no-more

pub more-end-len : (ds : List Delta) (i : ℕ) → length ds ≤ i → length (more_deltas (drop i ds)) ≡ 0
more-end-len ds i h = ap length (more-end ds i h)

pub deltas-first : (ds : List Delta) (d : Delta) → 0 < length ds → d ≡ get_or ds 0 d → deltas_text ds ≡ delta_text d ++ more_deltas (drop 1 ds)
deltas-first [] d h e = absurd (omega arith)
deltas-first (x ∷ ds) d h e = ap (λ (y : Delta). delta_text y ++ more_deltas ds) (sym e)

pub fits-at : (ds : List Delta) (i : ℕ) (d : Delta) → deltas_fit ds ≡ true → i < length ds → d ≡ get_or ds i d → delta_fits d ≡ true
fits-at ds i d w h e =
    let rest : deltas_fit (get_or ds i d ∷ drop (suc i) ds) ≡ true = ap deltas_fit (sym (drop-cons ds i d h)) ∙ within-drop i ds w in
    ap delta_fits e ∙ (both_of (delta_fits (get_or ds i d)) (deltas_fit (drop (suc i) ds)) rest).0

pub utf8-more : (ds : List Delta) (i : ℕ) (d : Delta) → i < length ds → d ≡ get_or ds i d → AllUtf8 (take i ds) → DeltaHasUtf8 d → AllUtf8 (take (i + 1) ds)
utf8-more ds i d h e a u =
    subst AllUtf8 (ap (λ (x : Delta). take i ds ++ x ∷ []) e ∙ sym (take_more ds i d h)) (one-more (take i ds) d a u)
