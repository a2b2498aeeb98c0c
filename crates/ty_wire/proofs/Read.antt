-- A message's body reads as its data, so one message has it.
use Rattle.std.proofs.Common.{◌≡◌, ℕ, ◌<◌, ◌≤◌, List, [], ◌∷◌, Bool, true, false, refl, sym, ap, subst, ◌∙◌, append-nil, arith, true≢false}
use Rattle.std.specs.Prelude.{Option, None, Some, option_and_then, ◌&&◌, nat_lt, ◌^◌}
use Rattle.std.specs.Str.{bytes_eq}
use Rattle.std.proofs.lemmas.Slice.Eq.{bytes_eq-Decides}
use Rattle.std.proofs.lemmas.Bool.Decides.{nat_tests}
use Rattle.json.specs.Token.{Token}
use Rattle.json.specs.Lex.{tokens}
use Rattle.json.specs.Json as json
use Rattle.json.specs.Tree as tree
use Rattle.json.proofs.Printed.Tokens.{tokens-print}
use Rattle.json.proofs.Printed.Trees.{value-json_tokens, ArePrintable-json_tokens}
use Rattle.json.proofs.Printed.Decimals.{IsNumber-decimal}
use Rattle.serde_json.specs.Data.{Data}
use Rattle.serde_json.specs.Read.{read, max_depth, of_json, of_items}
use Rattle.serde_json.specs.Written.{outline, items_outline}
use Rattle.serde_json.proofs.Numbers.{number_of-decimal}
use Rattle.ty_base.specs.Kinds.{tells}
use Rattle.ty_wire.specs.Wire.{body, parts_fit, Spells, IsJson}
use Rattle.ty_wire.specs.steps.Tokens.{delta_data, deltas_data, data_of, msg_tokens}
use Rattle.ty_wire.specs.steps.Members.{msg_of}
use Rattle.ty_wire.proofs.Spelling.{print-msg_tokens}
use Rattle.ty_wire.proofs.Members.{msg_of-data_of}
use Rattle.ty_wire.specs.declared.message.Msg.{Msg}
use Rattle.ty_wire.specs.declared.message.Msg.TheVariants.{ClientHello, ServerHello, Kvs, Status as StatusMsg, Crumb, Ping, Pong}
use Rattle.ty_base.specs.declared.delta.Kind.{Kind}
use Rattle.ty_base.specs.declared.delta.Delta.{Delta}

pub small : (n : ℕ) → nat_lt n (2 ^ 64) ≡ true → n < 2 ^ 64
small n h = grind (arith, nat_tests)

-- ---- numbers

delta-numbers : (k : List ℕ) (kind : Kind) (v : Option (List ℕ)) (t : tells kind v ≡ true) → tree.HasNumbers (outline (delta_data (record { key = k; kind = kind; value = v; told = t })))
delta-numbers k kind None t = (tt, (tt, tt))
delta-numbers k kind (Some v) t = (tt, (tt, (tt, tt)))

deltas-numbers : (ds : List Delta) → tree.ItemsHaveNumbers (items_outline (deltas_data ds))
deltas-numbers [] = tt
deltas-numbers (d ∷ ds) = (delta-numbers d.key d.kind d.value d.told, deltas-numbers ds)

numbers : (m : Msg) → parts_fit m ≡ true → tree.HasNumbers (outline (data_of m))
numbers (ClientHello v h) e = (tt, (tt, (IsNumber-decimal v (small v e), tt)))
numbers (ServerHello v) e = (tt, (IsNumber-decimal v (small v e), tt))
numbers (Kvs ds) e = (deltas-numbers ds, (tt, tt))
numbers (StatusMsg s) e = (tt, (tt, tt))
numbers (Crumb n) e = (tt, (IsNumber-decimal n (small n e), tt))
numbers (Ping t) e = (tt, (IsNumber-decimal t (small t e), tt))
numbers (Pong t) e = (tt, (IsNumber-decimal t (small t e), tt))

-- ---- depth

delta-depth : (k : List ℕ) (kind : Kind) (v : Option (List ℕ)) (t : tells kind v ≡ true) → tree.depth (outline (delta_data (record { key = k; kind = kind; value = v; told = t }))) ≤ 1
delta-depth k kind None t = omega arith
delta-depth k kind (Some v) t = omega arith

deltas-depth : (ds : List Delta) → tree.items_depth (items_outline (deltas_data ds)) ≤ 1
deltas-depth [] = omega arith
deltas-depth (d ∷ ds) = omega (arith, delta-depth d.key d.kind d.value d.told, deltas-depth ds)

shallow : (m : Msg) → tree.depth (outline (data_of m)) ≤ max_depth
shallow (ClientHello v h) = omega arith
shallow (ServerHello v) = omega arith
shallow (Kvs ds) = omega (arith, deltas-depth ds)
shallow (StatusMsg s) = omega arith
shallow (Crumb n) = omega arith
shallow (Ping t) = omega arith
shallow (Pong t) = omega arith

-- ---- data

delta-data : (k : List ℕ) (kind : Kind) (v : Option (List ℕ)) (t : tells kind v ≡ true) → of_json (outline (delta_data (record { key = k; kind = kind; value = v; told = t }))) ≡ Some (delta_data (record { key = k; kind = kind; value = v; told = t }))
delta-data k kind None t = refl
delta-data k kind (Some v) t = refl

deltas-data : (ds : List Delta) → of_items (items_outline (deltas_data ds)) ≡ Some (deltas_data ds)
deltas-data [] = refl
deltas-data (d ∷ ds) = rw (delta-data d.key d.kind d.value d.told, deltas-data ds) refl

shows : (m : Msg) → parts_fit m ≡ true → of_json (outline (data_of m)) ≡ Some (data_of m)
shows (ClientHello v h) e = rw (number_of-decimal v (small v e)) refl
shows (ServerHello v) e = rw (number_of-decimal v (small v e)) refl
shows (Kvs ds) e = rw (deltas-data ds) refl
shows (StatusMsg s) e = refl
shows (Crumb n) e = rw (number_of-decimal n (small n e)) refl
shows (Ping t) e = rw (number_of-decimal t (small t e)) refl
shows (Pong t) e = rw (number_of-decimal t (small t e)) refl

-- ---- the body

tokens-body : (m : Msg) → parts_fit m ≡ true → tokens (body m) ≡ msg_tokens m
tokens-body m e = ap tokens (sym (print-msg_tokens m)) ∙ tokens-print (msg_tokens m) (ArePrintable-json_tokens (outline (data_of m)) (numbers m e))

abbrev whole : Option (json.Json × List Token) → Option Data
whole o = option_and_then of_json (option_and_then (λ p. json.if_last p.0 p.1) o)

pub read-body : (m : Msg) → parts_fit m ≡ true → read (body m) ≡ Some (data_of m)
read-body m e =
    ap whole (ap (json.value max_depth) (tokens-body m e ∙ sym (append-nil (msg_tokens m))) ∙ value-json_tokens (outline (data_of m)) max_depth [] (shallow m)) ∙ shows m e

pub both : (a b : Bool) → (a && b) ≡ true → (a ≡ true) × (b ≡ true)
both true b h = (refl, h)
both false b h = absurd (true≢false (sym h))

-- what spells a message tells it
pub told : (bytes : List ℕ) (d : Data) (m : Msg) → read bytes ≡ Some d → Spells bytes m → msg_of d ≡ Some m
told bytes d m r s =
    let e : Some d ≡ Some (data_of m) = sym r ∙ ap read s.same ∙ read-body m (both (parts_fit m) _ s.fits).0 in
    let f : d ≡ data_of m = cc in
    ap msg_of f ∙ msg_of-data_of m

pub not_spelled : (bytes : List ℕ) (d : Data) (n m : Msg) (b : Bool) → read bytes ≡ Some d → Some n ≡ msg_of d → b ≡ (parts_fit n && bytes_eq (body n) bytes) → b ≡ false → Spells bytes m → ⊥
not_spelled bytes d n m b r t c f s =
    let e : Some n ≡ Some m = t ∙ told bytes d m r s in
    let same : n ≡ m = cc in
    let P : Msg → Type 0 = λ x. (parts_fit x && bytes_eq (body x) bytes) ≡ true in
    true≢false (sym (subst P (sym same) (rw ((both (parts_fit m) _ s.fits).0) ((bytes_eq-Decides (body m) bytes).1 (sym s.same)))) ∙ sym c ∙ f)

-- one message has a spelling
pub one_message : (bytes : List ℕ) (m n : Msg) → Spells bytes m → Spells bytes n → m ≡ n
one_message bytes m n s t =
    let r : read bytes ≡ Some (data_of m) = ap read s.same ∙ read-body m (both (parts_fit m) _ s.fits).0 in
    let e : Some m ≡ Some n = sym (told bytes (data_of m) m r s) ∙ told bytes (data_of m) n r t in
    cc

pub is_json : (bytes : List ℕ) (m : Msg) → Spells bytes m → IsJson bytes
is_json bytes m s = (s.utf8, (data_of m, ap read s.same ∙ read-body m (both (parts_fit m) _ s.fits).0))
