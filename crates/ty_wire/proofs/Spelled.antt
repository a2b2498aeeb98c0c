-- Deltas that stand at the front of bytes as a body spells them.
use Rattle.std.proofs.Common.{◌≡◌, ℕ, ◌<◌, ◌≤◌, true, codes, List, [], ◌∷◌, ◌++◌, length, flat_map, refl, sym, ap, subst, ◌∙◌, arith, append_assoc, append-nil, length-append, lt-ltb, le-leb, nat_lt, nat_le, IsUtf8}
use Rattle.std.proofs.lemmas.List.Folds.{list_all-append}
use Rattle.std.proofs.lemmas.Grind.{flat_map-append}
use Rattle.json.specs.Print.{quoted}
use Rattle.ty_base.specs.declared.limits.TheConstants.{BODY_BYTES, MESSAGE_DELTAS}
use Rattle.ty_base.specs.declared.delta.Kind.{Kind}
use Rattle.ty_base.specs.declared.delta.Delta.{Delta}
use Rattle.ty_wire.specs.Wire.{body, kind_text, value_text, delta_text, more_deltas, deltas_text, message_fits, Spells, DeltaHasUtf8}
use Rattle.ty_wire.specs.steps.Spelled.{AreSendable, AreSpelled, ArePieces, IsWithValue, delta_piece}
use Rattle.ty_wire.specs.declared.message.Msg.TheVariants.{Kvs}
use Rattle.ty_wire.proofs.Parts.{delta_fits}
use Rattle.ty_wire.proofs.Utf8.{one-more, is_wire}

pub pieces-first : (bytes : List ℕ) → ArePieces bytes [] bytes
pieces-first bytes = record { small = record { most = omega arith; limits = refl; utf8 = tt }; text = refl }

small-more : (ds : List Delta) (d : Delta) → AreSendable ds → length ds < MESSAGE_DELTAS → delta_fits d ≡ true → DeltaHasUtf8 d → AreSendable (ds ++ d ∷ [])
small-more ds d a h f u = record {
  most = omega (arith, length-append ds (d ∷ []));
  limits = list_all-append delta_fits ds (d ∷ []) ∙ rw (a.limits, f) refl;
  utf8 = one-more ds d a.utf8 u;
}

pub pieces-more : (bytes : List ℕ) (ds : List Delta) (rest : List ℕ) (d : Delta) (after next : List ℕ) → ArePieces bytes ds rest → length ds < MESSAGE_DELTAS → delta_fits d ≡ true → DeltaHasUtf8 d
    → rest ≡ delta_text d ++ after → after ≡ (44 ∷ []) ++ next → ArePieces bytes (ds ++ d ∷ []) next
pieces-more bytes ds rest d after next a h f u e g =
    let before : List ℕ = flat_map delta_piece ds in
    let one : flat_map delta_piece (d ∷ []) ≡ delta_piece d = append-nil (delta_piece d) in
    record {
      small = small-more ds d a.small h f u;
      text = a.text ∙ ap (λ l. before ++ l) (e ∙ ap (λ l. delta_text d ++ l) g ∙ sym (append_assoc (delta_text d) (44 ∷ []) next))
          ∙ sym (append_assoc before (delta_piece d) next)
          ∙ ap (λ l. l ++ next) (ap (λ l. before ++ l) (sym one) ∙ sym (flat_map-append delta_piece ds (d ∷ [])));
    }

with_comma : (ds : List Delta) (e : Delta) → 44 ∷ (flat_map delta_piece ds ++ delta_text e) ≡ more_deltas (ds ++ e ∷ [])
unfolding more_deltas
with_comma [] e = ap (λ (l : List ℕ). 44 ∷ l) (sym (append-nil (delta_text e)))
with_comma (d ∷ ds) e =
    ap (λ (l : List ℕ). 44 ∷ l)
    (append_assoc (delta_piece d) (flat_map delta_piece ds) (delta_text e)
    ∙ append_assoc (delta_text d) (44 ∷ []) (flat_map delta_piece ds ++ delta_text e)
    ∙ ap (λ l. delta_text d ++ l) (with_comma ds e))

no_more : (d : Delta) → delta_text d ≡ deltas_text (d ∷ [])
unfolding more_deltas
no_more d = sym (append-nil (delta_text d))

joined : (ds : List Delta) (e : Delta) → flat_map delta_piece ds ++ delta_text e ≡ deltas_text (ds ++ e ∷ [])
joined [] e = no_more e
joined (d ∷ ds) e =
    append_assoc (delta_piece d) (flat_map delta_piece ds) (delta_text e)
    ∙ append_assoc (delta_text d) (44 ∷ []) (flat_map delta_piece ds ++ delta_text e)
    ∙ ap (λ l. delta_text d ++ l) (with_comma ds e)

pub pieces-end : (bytes : List ℕ) (ds : List Delta) (rest : List ℕ) (d : Delta) (after : List ℕ) → ArePieces bytes ds rest → length ds < MESSAGE_DELTAS → delta_fits d ≡ true → DeltaHasUtf8 d
    → rest ≡ delta_text d ++ after → after ≡ codes "],\"m\":\"kvs\"}" → AreSpelled bytes (ds ++ d ∷ [])
pieces-end bytes ds rest d after a h f u e g =
    let end : List ℕ = codes "],\"m\":\"kvs\"}" in
    record {
      some = omega (arith, length-append ds (d ∷ []));
      small = small-more ds d a.small h f u;
      text = a.text ∙ ap (λ l. flat_map delta_piece ds ++ l) (e ∙ ap (λ l. delta_text d ++ l) g)
          ∙ sym (append_assoc (flat_map delta_piece ds) (delta_text d) end) ∙ ap (λ l. l ++ end) (joined ds d);
    }

pub spelled : (bytes rest : List ℕ) (ds : List Delta) → bytes ≡ codes "{\"kvs\":[" ++ rest → AreSpelled rest ds → length bytes ≤ BODY_BYTES → Spells bytes (Kvs ds)
spelled bytes rest ds e s h =
    let same : bytes ≡ body (Kvs ds) = e ∙ ap (λ l. codes "{\"kvs\":[" ++ l) s.text in
    let a : nat_lt 0 (length ds) ≡ true = lt-ltb 0 (length ds) s.some in
    let b : nat_le (length ds) MESSAGE_DELTAS ≡ true = le-leb (length ds) MESSAGE_DELTAS s.small.most in
    let c : nat_le (length (body (Kvs ds))) BODY_BYTES ≡ true = le-leb (length (body (Kvs ds))) BODY_BYTES (omega (arith, ap length same, h)) in
    let fits : message_fits (Kvs ds) ≡ true = rw (a, b, s.small.limits, c) refl in
    record { utf8 = subst IsUtf8 (sym same) (is_wire (Kvs ds) s.small.utf8 fits).utf8; fits = fits; same = same }

pub delta-parts : (d : Delta) (key : List ℕ) (kind : Kind) (bytes r1 r2 r3 r4 rest : List ℕ) → bytes ≡ codes "{\"key\":" ++ r1 → r1 ≡ quoted key ++ r2 → r2 ≡ codes ",\"type\":\"" ++ r3
    → r3 ≡ kind_text kind ++ (codes "\"" ++ r4) → IsWithValue key kind r4 d rest → bytes ≡ delta_text d ++ rest
delta-parts d key kind bytes r1 r2 r3 r4 rest e f g h w =
    let value : List ℕ = value_text d.value in
    let behind_kind : List ℕ = codes "\"" ++ (value ++ codes "}") in
    let behind_key : List ℕ = codes ",\"type\":\"" ++ (kind_text d.kind ++ behind_kind) in
    e
    ∙ ap (λ l. codes "{\"key\":" ++ l)
    (f ∙ ap (λ (k : List ℕ). quoted k ++ r2) (sym w.key_is)
    ∙ ap (λ l. quoted d.key ++ l)
    (g
    ∙ ap (λ l. codes ",\"type\":\"" ++ l)
    (h ∙ ap (λ (k : Kind). kind_text k ++ (codes "\"" ++ r4)) (sym w.kind_is)
    ∙ ap (λ l. kind_text d.kind ++ (codes "\"" ++ l)) (w.text ∙ sym (append_assoc value (codes "}") rest))
    ∙ sym (append_assoc (kind_text d.kind) behind_kind rest)))
    ∙ sym (append_assoc (quoted d.key) behind_key rest))
