-- A message that is being filled, delta by delta.
use Rattle.std.proofs.Common.{◌≡◌, ℕ, ◌+◌, true, false, List, [], ◌∷◌, ◌++◌, map, refl, sym, ap, subst, ◌∙◌, append_assoc, append-nil}
use Rattle.std.specs.Prelude.{Result, Ok, Err, OnOk}
use Rattle.std.specs.List.{sum_by}
use Rattle.std.proofs.lemmas.List.Sums.{sum_by_push}
use Rattle.std.proofs.lemmas.List.Folds.{list_all-append}
use Rattle.ty_base.specs.declared.delta.Delta.{Delta}
use Rattle.ty_base.specs.Passing.{delta_passes}
use Rattle.ty_base.specs.Limits.{key_fits, value_fits}
use Rattle.ty_wire.specs.Wire.{frame, frames}
use Rattle.ty_wire.specs.Cut.{weight, takes, cut_on, cut_deltas}
use Rattle.ty_wire.specs.Talk.{kvs_messages}
use Rattle.ty_wire.specs.declared.message.Msg.TheVariants.{Kvs}
use Rattle.ty_wire.proofs.Parts.{goes_on}
use Rattle.ty_group.specs.Written.{IsWritten}
use Rattle.ty_group.specs.steps.Filled.{IsOpen, IsFilled, has_place}

pub none : IsFilled [] 0
none = record { limits = refl; heavy = refl; open_to = λ rest. refl }

-- ---- one more

more_open : (e d : Delta) (ds : List Delta) → takes (e ∷ ds) d ≡ true → IsOpen (e ∷ ds) → IsOpen (e ∷ (ds ++ d ∷ []))
more_open e d ds t o = λ rest. ap cut_deltas (append_assoc (e ∷ ds) (d ∷ []) rest) ∙ o (d ∷ rest) ∙ goes_on (e ∷ ds) rest d t

added_open : (ds : List Delta) (d : Delta) → has_place ds d ≡ true → IsOpen ds → IsOpen (ds ++ d ∷ [])
added_open [] d t o = λ rest. refl
added_open (e ∷ ds) d t o = more_open e d ds t o

pub added : (ds : List Delta) (d : Delta) (load more : ℕ) → more ≡ weight d → delta_passes key_fits value_fits d ≡ true → has_place ds d ≡ true → IsFilled ds load → IsFilled (ds ++ d ∷ []) (load + more)
added ds d load more m h t f = record {
  limits = list_all-append (delta_passes key_fits value_fits) ds (d ∷ []) ∙ rw (f.limits, h) refl;
  heavy = ap (λ (k : ℕ). k + more) f.heavy ∙ ap (λ (k : ℕ). sum_by weight ds + k) m ∙ sym (sum_by_push weight ds d);
  open_to = added_open ds d t f.open_to;
}

-- ---- full

whole : (e : Delta) (ds : List Delta) → IsOpen (e ∷ ds) → cut_deltas (e ∷ ds) ≡ (e ∷ ds) ∷ []
unfolding cut_on
whole e ds o = ap cut_deltas (sym (append-nil (e ∷ ds))) ∙ o []

stops : (filling ds : List Delta) (d : Delta) → takes filling d ≡ false → cut_on filling (d ∷ ds) ≡ filling ∷ cut_on (d ∷ []) ds
unfolding cut_on
stops filling ds d h = rw h refl

-- the message is written, and the next delta begins another
begins_next : (ds : List Delta) (load : ℕ) (before now : List ℕ) → IsFilled ds load → now ≡ before ++ frames (kvs_messages ds)
    → (d : Delta) (rest : List Delta) → has_place ds d ≡ false → IsWritten (ds ++ d ∷ rest) (d ∷ rest) before now
begins_next [] load before now f w = λ d rest t. cc
begins_next (e ∷ ds) load before now f w = λ d rest t.
    ap (λ (l : List ℕ). l ++ frames (kvs_messages (d ∷ rest))) (w ∙ ap (λ (l : List (List Delta)). before ++ frames (map Kvs l)) (whole e ds f.open_to))
    ∙ append_assoc before (frames (Kvs (e ∷ ds) ∷ [])) (frames (kvs_messages (d ∷ rest)))
    ∙ ap (λ (l : List ℕ). before ++ (l ++ frames (kvs_messages (d ∷ rest)))) (append-nil (frame (Kvs (e ∷ ds))))
    ∙ ap (λ (l : List (List Delta)). before ++ frames (map Kvs l)) (sym (f.open_to (d ∷ rest) ∙ stops (e ∷ ds) rest d t))

pub begins_where_ok : {A E : Type 0} (r : Result A E) (held ds : List Delta) (load : ℕ) (before now : List ℕ) → held ≡ ds → IsFilled held load → OnOk r (now ≡ before ++ frames (kvs_messages held))
    → OnOk r ((d : Delta) (rest : List Delta) → has_place ds d ≡ false → IsWritten (ds ++ d ∷ rest) (d ∷ rest) before now)
begins_where_ok (Ok x) held ds load before now same f w =
    let P : List Delta → Type 0 = λ l. (d : Delta) (rest : List Delta) → has_place l d ≡ false → IsWritten (l ++ d ∷ rest) (d ∷ rest) before now in
    subst P same (begins_next held load before now f w)
begins_where_ok (Err e) held ds load before now same f w = tt

-- nothing is written, and there is one delta more
kept_on : (ds : List Delta) (d : Delta) (rest : List Delta) (now : List ℕ) → now ++ frames (kvs_messages ((ds ++ d ∷ []) ++ rest)) ≡ now ++ frames (kvs_messages (ds ++ d ∷ rest))
kept_on ds d rest now = ap (λ (l : List Delta). now ++ frames (kvs_messages l)) (append_assoc ds (d ∷ []) rest)

pub taken_on : (ds : List Delta) (d : Delta) (rest : List Delta) (all new : List Delta) (before now : List ℕ) → new ≡ ds ++ d ∷ [] → IsWritten (all ++ d ∷ rest) (ds ++ d ∷ rest) before now → IsWritten (all ++ d ∷ rest) (new ++ rest) before now
taken_on ds d rest all new before now e w =
    ap (λ (l : List Delta). now ++ frames (kvs_messages (l ++ rest))) e ∙ kept_on ds d rest now ∙ w

pub made_place : (ds : List Delta) (d : Delta) (new : List Delta) (before now : List ℕ) → new ≡ [] → ((rest : List Delta) → IsWritten (ds ++ d ∷ rest) (d ∷ rest) before now)
    → (rest : List Delta) → IsWritten (ds ++ d ∷ rest) (new ++ d ∷ rest) before now
made_place ds d new before now e w = λ rest. ap (λ (l : List Delta). now ++ frames (kvs_messages (l ++ d ∷ rest))) e ∙ w rest
