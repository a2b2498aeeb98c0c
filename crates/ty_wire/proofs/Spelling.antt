-- A message's body, as JSON data: its text, its tokens, and what reading it gives.
use Rattle.std.proofs.Common.{◌≡◌, ℕ, List, [], ◌∷◌, ◌++◌, true, false, refl, sym, ap, ◌∙◌, append_assoc, flat_map}
use Rattle.std.specs.Prelude.{codes, Option, None, Some}
use Rattle.json.specs.Token.{Token}
use Rattle.json.specs.Print.{print, escape_byte}
use Rattle.json.specs.Tree.{json_tokens, items_tokens}
use Rattle.serde_json.specs.Written.{outline, items_outline, compact_text, items_text}
use Rattle.serde_json.proofs.Texts.{print-outline}
use Rattle.ty_wire.specs.Wire.{delta_text, more_deltas, deltas_text, body}
use Rattle.ty_wire.specs.steps.Tokens.{delta_data, deltas_data, data_of, msg_tokens, delta_tokens, kvs_tokens}
use Rattle.ty_wire.specs.declared.message.Msg.{Msg}
use Rattle.ty_wire.specs.declared.message.Msg.TheVariants.{ClientHello, ServerHello, Kvs, Status as StatusMsg, Crumb, Ping, Pong}
use Rattle.ty_base.specs.declared.status.Status.TheVariants.{Wait, Resync, InSync}
use Rattle.ty_base.specs.declared.delta.Kind.{Kind}
use Rattle.ty_base.specs.declared.delta.Kind.TheVariants.{New, Updated, Deleted}
use Rattle.ty_base.specs.declared.delta.Delta.{Delta}
use Rattle.ty_base.specs.Kinds.{tells}

-- ---- the text

delta_by : (k : List ℕ) (kind : Kind) (v : Option (List ℕ)) (t : tells kind v ≡ true) → compact_text (delta_data (record { key = k; kind = kind; value = v; told = t })) ≡ delta_text (record { key = k; kind = kind; value = v; told = t })
unfolding escape_byte
delta_by k New None t = refl
delta_by k New (Some v) t = refl
delta_by k Updated None t = refl
delta_by k Updated (Some v) t = refl
delta_by k Deleted None t = refl
delta_by k Deleted (Some v) t = refl

compact-delta : (d : Delta) → compact_text (delta_data d) ≡ delta_text d
compact-delta d = delta_by d.key d.kind d.value d.told

more : (ds : List Delta) → items_text true (deltas_data ds) ≡ more_deltas ds ++ (93 ∷ [])
unfolding more_deltas
more [] = refl
more (d ∷ ds) = ap (λ (t : List ℕ). 44 ∷ t) (ap (λ (t : List ℕ). t ++ items_text true (deltas_data ds)) (compact-delta d) ∙ ap (λ (t : List ℕ). delta_text d ++ t) (more ds) ∙ sym (append_assoc (delta_text d) (more_deltas ds) (93 ∷ [])))

all : (ds : List Delta) → items_text false (deltas_data ds) ≡ deltas_text ds ++ (93 ∷ [])
all [] = refl
all (d ∷ ds) = ap (λ (t : List ℕ). t ++ items_text true (deltas_data ds)) (compact-delta d) ∙ ap (λ (t : List ℕ). delta_text d ++ t) (more ds) ∙ sym (append_assoc (delta_text d) (more_deltas ds) (93 ∷ []))

pub compact-data_of : (m : Msg) → compact_text (data_of m) ≡ body m
unfolding escape_byte
compact-data_of (ClientHello v h) = simp append_assoc
compact-data_of (ServerHello v) = refl
compact-data_of (StatusMsg Wait) = refl
compact-data_of (StatusMsg Resync) = refl
compact-data_of (StatusMsg InSync) = refl
compact-data_of (Crumb n) = refl
compact-data_of (Ping t) = refl
compact-data_of (Pong t) = refl
compact-data_of (Kvs ds) = ap (λ (t : List ℕ). codes "{\"kvs\":[" ++ (t ++ codes ",\"m\":\"kvs\"}")) (all ds) ∙ ap (λ (t : List ℕ). codes "{\"kvs\":[" ++ t) (append_assoc (deltas_text ds) (93 ∷ []) (codes ",\"m\":\"kvs\"}"))

pub print-msg_tokens : (m : Msg) → print (msg_tokens m) ≡ body m
print-msg_tokens m = print-outline (data_of m) ∙ compact-data_of m

-- ---- the tokens

delta_tokens_by : (k : List ℕ) (kind : Kind) (v : Option (List ℕ)) (t : tells kind v ≡ true) → json_tokens (outline (delta_data (record { key = k; kind = kind; value = v; told = t }))) ≡ delta_tokens (record { key = k; kind = kind; value = v; told = t })
delta_tokens_by k kind None t = refl
delta_tokens_by k kind (Some v) t = refl

deltas_tokens : (ds : List Delta) (ts : List Token) → items_tokens (items_outline (deltas_data ds)) ++ ts ≡ flat_map delta_tokens ds ++ (Token.end_array ∷ ts)
deltas_tokens [] ts = refl
deltas_tokens (d ∷ ds) ts =
    ap (λ (u : List Token). (u ++ items_tokens (items_outline (deltas_data ds))) ++ ts) (delta_tokens_by d.key d.kind d.value d.told)
    ∙ append_assoc (delta_tokens d) (items_tokens (items_outline (deltas_data ds))) ts
    ∙ ap (λ (u : List Token). delta_tokens d ++ u) (deltas_tokens ds ts)
    ∙ sym (append_assoc (delta_tokens d) (flat_map delta_tokens ds) (Token.end_array ∷ ts))

pub tokens-Kvs : (ds : List Delta) → msg_tokens (Kvs ds) ≡ kvs_tokens (flat_map delta_tokens ds)
tokens-Kvs ds = simp (deltas_tokens ds (Token.key (codes "m") ∷ Token.string (codes "kvs") ∷ Token.end_object ∷ []))

pub print-kvs_tokens : (ds : List Delta) → print (kvs_tokens (flat_map delta_tokens ds)) ≡ body (Kvs ds)
print-kvs_tokens ds = ap print (sym (tokens-Kvs ds)) ∙ print-msg_tokens (Kvs ds)
