-- What the cutting of deltas comes to: its parts joined are the deltas, and each part fits a message.
use Rattle.std.proofs.Common.{◌≡◌, ℕ, zero, suc, ◌+◌, ◌*◌, ◌<◌, ◌≤◌, Bool, true, false, cond, ◌&&◌, codes, take, drop, get_or, add-one, drop-cons, lt-ltb, le-leb, nat_lt, nat_le, List, [], ◌∷◌, ◌++◌, length, flat_map, refl, sym, ap, subst, ◌∙◌, arith, append_assoc, append-nil, length-append, inl, inr, true≢false}
use Rattle.std.specs.Prelude.{Option, None, Some, ◌⊎◌}
use Rattle.std.specs.List.{AllByRecursion, sum_by}
use Rattle.std.proofs.lemmas.List.Sums.{sum_by-cons, sum_by_push}
use Rattle.std.proofs.lemmas.List.Folds.{list_all-append}
use Rattle.std.proofs.lemmas.Bool.{ltb-true, leb-true}
use Rattle.std.proofs.lemmas.List.{length-take-le, drop_all, take_more}
use Rattle.json.specs.Print.{escape_byte, escape_letter, escape, quoted}
use Rattle.ty_base.specs.declared.limits.TheConstants.{BODY_BYTES, KEY_BYTES, MESSAGE_DELTAS, VALUE_BYTES}
use Rattle.ty_base.specs.Passing.{delta_passes, option_passes}
use Rattle.ty_base.specs.Limits.{key_fits, value_fits, deltas_fit}
use Rattle.ty_base.specs.declared.delta.Kind.{Kind}
use Rattle.ty_base.specs.declared.delta.Kind.TheVariants.{New, Updated, Deleted}
use Rattle.ty_base.specs.declared.delta.Delta.{Delta}
use Rattle.ty_wire.specs.Wire.{kind_text, value_text, delta_text, more_deltas, deltas_text, body, message_fits}
use Rattle.ty_wire.specs.Cut.{value_len, weight, takes, cut_on, cut_deltas}
use Rattle.ty_wire.specs.declared.message.Msg.TheVariants.{Kvs}

pub both_of : (a b : Bool) → (a && b) ≡ true → (a ≡ true) × (b ≡ true)
both_of true b h = (refl, h)
both_of false b h = absurd (true≢false (sym h))

-- ---- the parts joined

joined_on : (filling rest : List Delta) → flat_map (λ part. part) (cut_on filling rest) ≡ filling ++ rest
unfolding cut_on
joined_on filling [] = refl
joined_on filling (d ∷ ds) =
    elim (takes filling d) as (λ b. flat_map (λ part. part) (cond b (cut_on (filling ++ d ∷ []) ds) (filling ∷ cut_on (d ∷ []) ds)) ≡ filling ++ d ∷ ds) [
      | true ↦ joined_on (filling ++ d ∷ []) ds ∙ append_assoc filling (d ∷ []) ds
      | false ↦ ap (λ (l : List Delta). filling ++ l) (joined_on (d ∷ []) ds)
    ]

pub joined : (ds : List Delta) → flat_map (λ part. part) (cut_deltas ds) ≡ ds
joined [] = refl
joined (d ∷ ds) = joined_on (d ∷ []) ds

-- ---- where a message ends

pub ends_here : (filling rest : List Delta) → ((d : Delta) (ds : List Delta) → rest ≡ d ∷ ds → takes filling d ≡ false) → cut_on filling rest ≡ filling ∷ cut_deltas rest
unfolding cut_on
ends_here filling [] h = refl
ends_here filling (d ∷ ds) h = rw (h d ds refl) refl

pub goes_on : (filling ds : List Delta) (d : Delta) → takes filling d ≡ true → cut_on filling (d ∷ ds) ≡ cut_on (filling ++ d ∷ []) ds
unfolding cut_on
goes_on filling ds d h = rw h refl

pub begins : (ds : List Delta) → 0 < length ds → cut_deltas ds ≡ cut_on (take 1 ds) (drop 1 ds)
begins [] h = absurd (omega arith)
begins (d ∷ ds) h = refl

pub begins-weight : (ds : List Delta) (d : Delta) → 0 < length ds → d ≡ get_or ds 0 d → weight d ≡ sum_by weight (take 1 ds)
begins-weight [] d h e = absurd (omega arith)
begins-weight (x ∷ ds) d h e = ap weight e ∙ omega (arith, sum_by-cons weight x [])

-- whether the message of the first n takes the next, by their number and their weight
abbrev pub by_count : ℕ → ℕ → Delta → Bool
by_count n w d = nat_lt n MESSAGE_DELTAS && nat_le (w + weight d) VALUE_BYTES

is_by_count : (ds : List Delta) (n w : ℕ) (d : Delta) → n ≤ length ds → w ≡ sum_by weight (take n ds) → takes (take n ds) d ≡ by_count n w d
is_by_count ds n w d h e = rw (length-take-le n ds h, ← e) refl

pub front-more : (ds : List Delta) (n w : ℕ) (d : Delta) → n < length ds → d ≡ get_or ds n d → w ≡ sum_by weight (take n ds) → by_count n w d ≡ true
    → cut_deltas ds ≡ cut_on (take n ds) (drop n ds) → cut_deltas ds ≡ cut_on (take (n + 1) ds) (drop (n + 1) ds)
front-more ds n w d h e s t c =
    c ∙ ap (cut_on (take n ds)) (drop-cons ds n d h ∙ ap (λ (x : Delta). x ∷ drop (suc n) ds) (sym e))
    ∙ goes_on (take n ds) (drop (suc n) ds) d (is_by_count ds n w d (omega arith) s ∙ t)
    ∙ ap (λ (x : Delta). cut_on (take n ds ++ x ∷ []) (drop (suc n) ds)) e
    ∙ ap (λ (l : List Delta). cut_on l (drop (suc n) ds)) (sym (take_more ds n d h))
    ∙ ap (λ (k : ℕ). cut_on (take (n + 1) ds) (drop k ds)) (sym (add-one n))

pub front-ends : (ds : List Delta) (n w : ℕ) (d : Delta) → n < length ds → d ≡ get_or ds n d → w ≡ sum_by weight (take n ds) → by_count n w d ≡ false
    → cut_deltas ds ≡ cut_on (take n ds) (drop n ds) → cut_deltas ds ≡ take n ds ∷ cut_deltas (drop n ds)
front-ends ds n w d h e s t c =
    let next : drop n ds ≡ d ∷ drop (suc n) ds = drop-cons ds n d h ∙ ap (λ (x : Delta). x ∷ drop (suc n) ds) (sym e) in
    c ∙ ends_here (take n ds) (drop n ds) (λ x xs q.
    let p : d ∷ drop (suc n) ds ≡ x ∷ xs = sym next ∙ q in
    let same : d ≡ x = cc in
    ap (takes (take n ds)) (sym same) ∙ is_by_count ds n w d (omega arith) s ∙ t)

pub front-all : (ds : List Delta) (n : ℕ) → length ds ≤ n → cut_deltas ds ≡ cut_on (take n ds) (drop n ds) → cut_deltas ds ≡ take n ds ∷ cut_deltas (drop n ds)
front-all ds n h c =
    c ∙ ends_here (take n ds) (drop n ds) (λ x xs q. let p : [] ≡ x ∷ xs = sym (drop_all n ds h) ∙ q in absurd (cc))

-- ---- how long a body is

cond-len : (b : Bool) (x y : List ℕ) (n : ℕ) → length x ≤ n → length y ≤ n → length (cond b x y) ≤ n
cond-len true x y n g h = g
cond-len false x y n g h = h

escape_byte-len : (x : ℕ) → length (escape_byte x) ≤ 6
unfolding escape_byte
escape_byte-len x = cond-len (nat_lt 0 (escape_letter x)) _ _ 6 (omega arith) (cond-len (nat_lt x 32) _ _ 6 (omega arith) (omega arith))

pub escape-len : (s : List ℕ) → length (escape s) ≤ 6 * length s
escape-len [] = omega arith
escape-len (x ∷ xs) = omega (arith, length-append (escape_byte x) (escape xs), escape_byte-len x, escape-len xs)

pub quoted-len : (s : List ℕ) → length (quoted s) ≤ 6 * length s + 2
quoted-len s = omega (arith, length-append (escape s) (34 ∷ []), escape-len s)

kind_text-len : (k : Kind) → length (kind_text k) ≤ 7
kind_text-len New = omega arith
kind_text-len Updated = omega arith
kind_text-len Deleted = omega arith

value_text-len : (v : Option (List ℕ)) → length (value_text v) ≤ 6 * value_len v + 11
value_text-len None = omega arith
value_text-len (Some v) = omega (arith, quoted-len v)

pub delta_text-len : (d : Delta) → length (delta_text d) ≤ 6 * weight d + 38
delta_text-len d =
    let key : List ℕ = quoted d.key in
    let kind : List ℕ = kind_text d.kind in
    let value : List ℕ = value_text d.value in
    omega (
      arith,
      length-append key (codes ",\"type\":\"" ++ (kind ++ (codes "\"" ++ (value ++ codes "}")))),
      length-append kind (codes "\"" ++ (value ++ codes "}")),
      length-append value (codes "}"),
      quoted-len d.key,
      kind_text-len d.kind,
      value_text-len d.value,
    )

more_deltas-len : (ds : List Delta) → length (more_deltas ds) ≤ 6 * sum_by weight ds + 39 * length ds
unfolding more_deltas
more_deltas-len [] = omega arith
more_deltas-len (d ∷ ds) = omega (arith, length-append (delta_text d) (more_deltas ds), delta_text-len d, more_deltas-len ds, sum_by-cons weight d ds)

deltas_text-len : (ds : List Delta) → length (deltas_text ds) ≤ 6 * sum_by weight ds + 39 * length ds
deltas_text-len [] = omega arith
deltas_text-len (d ∷ ds) = omega (arith, length-append (delta_text d) (more_deltas ds), delta_text-len d, more_deltas-len ds, sum_by-cons weight d ds)

pub body-len : (ds : List Delta) → length (body (Kvs ds)) ≤ 6 * sum_by weight ds + 39 * length ds + 20
body-len ds = omega (arith, length-append (deltas_text ds) (codes "],\"m\":\"kvs\"}"), deltas_text-len ds)

-- ---- a message that is being filled fits

abbrev pub delta_fits : Delta → Bool
delta_fits d = delta_passes key_fits value_fits d

value-weight : (v : Option (List ℕ)) → option_passes value_fits v ≡ true → value_len v ≤ VALUE_BYTES
value-weight None h = omega arith
value-weight (Some v) h = leb-true (length v) VALUE_BYTES h

pub one-weight : (d : Delta) → delta_fits d ≡ true → weight d ≤ KEY_BYTES + VALUE_BYTES
one-weight d h =
    let b = both_of (key_fits d.key) (option_passes value_fits d.value) h in
    omega (arith, leb-true (length d.key) KEY_BYTES b.0, value-weight d.value b.1)

light : (ds : List Delta) → deltas_fit ds ≡ true → sum_by weight ds ≤ VALUE_BYTES ⊎ length ds ≡ 1 → sum_by weight ds ≤ KEY_BYTES + VALUE_BYTES
light ds w (inl h) = omega arith
light [] w (inr h) = omega arith
light (d ∷ []) w (inr h) = omega (arith, one-weight d (both_of (delta_fits d) true w).0)
light (d ∷ e ∷ ds) w (inr h) = absurd (omega arith)

pub record IsFilling (ds : List Delta) : Type 0 where
  pub some : 0 < length ds
  pub most : length ds ≤ MESSAGE_DELTAS
  pub limits : deltas_fit ds ≡ true
  pub light : sum_by weight ds ≤ VALUE_BYTES ⊎ length ds ≡ 1

abbrev pub Fits : List Delta → Type 0
Fits ds = message_fits (Kvs ds) ≡ true

fits : (ds : List Delta) → IsFilling ds → Fits ds
fits ds f =
    let a : nat_lt 0 (length ds) ≡ true = lt-ltb 0 (length ds) f.some in
    let b : nat_le (length ds) MESSAGE_DELTAS ≡ true = le-leb (length ds) MESSAGE_DELTAS f.most in
    let c : nat_le (length (body (Kvs ds))) BODY_BYTES ≡ true = le-leb (length (body (Kvs ds))) BODY_BYTES (omega (arith, body-len ds, light ds f.limits f.light, f.most)) in
    rw (a, b, f.limits, c) refl

one : (d : Delta) → delta_fits d ≡ true → IsFilling (d ∷ [])
one d h = record { some = omega arith; most = omega arith; limits = rw h refl; light = inr refl }

taken : (filling : List Delta) (d : Delta) → IsFilling filling → delta_fits d ≡ true → takes filling d ≡ true → IsFilling (filling ++ d ∷ [])
taken filling d f h t =
    let b : (nat_lt (length filling) MESSAGE_DELTAS ≡ true) × (nat_le (sum_by weight filling + weight d) VALUE_BYTES ≡ true) = both_of (nat_lt (length filling) MESSAGE_DELTAS) (nat_le (sum_by weight filling + weight d) VALUE_BYTES) t in
    let n : length filling < MESSAGE_DELTAS = ltb-true (length filling) MESSAGE_DELTAS b.0 in
    let w : sum_by weight filling + weight d ≤ VALUE_BYTES = leb-true (sum_by weight filling + weight d) VALUE_BYTES b.1 in
    record {
      some = omega (arith, length-append filling (d ∷ []));
      most = omega (arith, length-append filling (d ∷ []), n);
      limits = list_all-append delta_fits filling (d ∷ []) ∙ rw (f.limits, h) refl;
      light = inl (omega (arith, sum_by_push weight filling d, w));
    }

all-fit-on : (filling rest : List Delta) → IsFilling filling → deltas_fit rest ≡ true → AllByRecursion Fits (cut_on filling rest)
unfolding cut_on
all-fit-on filling [] f w = (fits filling f, tt)
all-fit-on filling (d ∷ ds) f w =
    let h : (delta_fits d ≡ true) × (deltas_fit ds ≡ true) = both_of (delta_fits d) (deltas_fit ds) w in
    elim (takes filling d) as (λ b. takes filling d ≡ b → AllByRecursion Fits (cond b (cut_on (filling ++ d ∷ []) ds) (filling ∷ cut_on (d ∷ []) ds))) [
      | true ↦ λ t. all-fit-on (filling ++ d ∷ []) ds (taken filling d f h.0 t) h.1
      | false ↦ λ t. (fits filling f, all-fit-on (d ∷ []) ds (one d h.0) h.1)
    ] refl

pub all-fit : (ds : List Delta) → deltas_fit ds ≡ true → AllByRecursion Fits (cut_deltas ds)
all-fit [] w = tt
all-fit (d ∷ ds) w =
    let h : (delta_fits d ≡ true) × (deltas_fit ds ≡ true) = both_of (delta_fits d) (deltas_fit ds) w in
    all-fit-on (d ∷ []) ds (one d h.0) h.1

pub front-fits : (ds : List Delta) (n : ℕ) → deltas_fit ds ≡ true → cut_deltas ds ≡ take n ds ∷ cut_deltas (drop n ds) → Fits (take n ds)
front-fits ds n w e = let P : List (List Delta) → Type 0 = AllByRecursion Fits in (subst P e (all-fit ds w)).0

pub within-drop : (n : ℕ) (ds : List Delta) → deltas_fit ds ≡ true → deltas_fit (drop n ds) ≡ true
within-drop zero ds w = w
within-drop (suc n) [] w = w
within-drop (suc n) (d ∷ ds) w = within-drop n ds (both_of (delta_fits d) (deltas_fit ds) w).1

pub cut-all : (ds es : List Delta) (parts : List (List Delta)) (n : ℕ) → es ≡ ds → length es ≤ n → cut_deltas es ≡ parts ++ cut_deltas (drop n es) → cut_deltas ds ≡ parts
cut-all ds es parts n e h c = ap cut_deltas (sym e) ∙ c ∙ ap (λ (l : List Delta). parts ++ cut_deltas l) (drop_all n es h) ∙ append-nil parts
