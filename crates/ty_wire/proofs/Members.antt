-- The message that a message's own data tells, and the steps of the loop over deltas.
use Rattle.std.proofs.Common.{◌≡◌, ℕ, ◌+◌, ◌<◌, ◌≤◌, List, [], ◌∷◌, ◌++◌, length, drop, get_or, refl, sym, ap, ◌∙◌, append_assoc, append-nil, add-one, drop-cons, true, true≢false}
use Rattle.std.proofs.Math.Bool.{Bool-set}
use Rattle.ty_base.specs.Kinds.{tells}
use Rattle.std.specs.Prelude.{Option, None, Some, option_map}
use Rattle.std.proofs.lemmas.List.{drop_all}
use Rattle.serde_json.specs.View.{view, items_view}
use Rattle.serde_json.specs.declared.value.Value.{Value}
use Rattle.ty_wire.specs.steps.Tokens.{delta_data, deltas_data, data_of}
use Rattle.ty_wire.specs.steps.Members.{delta_in, delta_with, deltas_of, cons_if, msg_of}
use Rattle.ty_wire.specs.declared.message.Msg.{Msg}
use Rattle.ty_wire.specs.declared.message.Msg.TheVariants.{ClientHello, ServerHello, Kvs, Status as StatusMsg, Crumb, Ping, Pong}
use Rattle.ty_base.specs.declared.status.Status.TheVariants.{Wait, Resync, InSync}
use Rattle.ty_base.specs.declared.delta.Kind.{Kind}
use Rattle.ty_base.specs.declared.delta.Kind.TheVariants.{New, Updated, Deleted}
use Rattle.ty_base.specs.declared.delta.Delta.{Delta}

-- ---- a message's own data

delta_by : (k : List ℕ) (kind : Kind) (v : Option (List ℕ)) (t : tells kind v ≡ true) → delta_in (delta_data (record { key = k; kind = kind; value = v; told = t })) ≡ Some (record { key = k; kind = kind; value = v; told = t })
delta_by k New None t = absurd (true≢false (sym t))
delta_by k New (Some v) t = ap (λ (p : true ≡ true). Some (record { key = k; kind = New; value = Some v; told = p })) (Bool-set true true refl t)
delta_by k Updated None t = absurd (true≢false (sym t))
delta_by k Updated (Some v) t = ap (λ (p : true ≡ true). Some (record { key = k; kind = Updated; value = Some v; told = p })) (Bool-set true true refl t)
delta_by k Deleted None t = ap (λ (p : true ≡ true). Some (record { key = k; kind = Deleted; value = None; told = p })) (Bool-set true true refl t)
delta_by k Deleted (Some v) t = absurd (true≢false (sym t))

deltas : (ds : List Delta) → deltas_of (deltas_data ds) ≡ Some ds
unfolding deltas_of
deltas [] = refl
deltas (d ∷ ds) = ap (λ (o : Option Delta). cons_if o (deltas_of (deltas_data ds))) (delta_by d.key d.kind d.value d.told) ∙ ap (λ (o : Option (List Delta)). cons_if (Some d) o) (deltas ds)

pub msg_of-data_of : (m : Msg) → msg_of (data_of m) ≡ Some m
msg_of-data_of (ClientHello v h) = refl
msg_of-data_of (ServerHello v) = refl
msg_of-data_of (Kvs ds) = ap (λ (o : Option (List Delta)). option_map Kvs o) (deltas ds)
msg_of-data_of (StatusMsg Wait) = refl
msg_of-data_of (StatusMsg Resync) = refl
msg_of-data_of (StatusMsg InSync) = refl
msg_of-data_of (Crumb n) = refl
msg_of-data_of (Ping t) = refl
msg_of-data_of (Pong t) = refl

-- ---- the loop, which has read xs and has i behind it

abbrev pub behind : List Delta → Option (List Delta) → Option (List Delta)
behind xs o = option_map (λ (ds : List Delta). xs ++ ds) o

pub deltas-end : (vs : List Value) (i : ℕ) (xs : List Delta) (o : Option (List Delta)) → length vs ≤ i → o ≡ behind xs (deltas_of (items_view (drop i vs))) → Some xs ≡ o
unfolding deltas_of
deltas-end vs i xs o h e = sym (e ∙ ap (λ l. behind xs (deltas_of (items_view l))) (drop_all i vs h) ∙ ap Some (append-nil xs))

at : (vs : List Value) (i : ℕ) (v : Value) → i < length vs → v ≡ get_or vs i v → deltas_of (items_view (drop i vs)) ≡ cons_if (delta_in (view v)) (deltas_of (items_view (drop (i + 1) vs)))
unfolding deltas_of
at vs i v h e = rw (drop-cons vs i v h, ← e, add-one) refl

pub deltas-none : (vs : List Value) (i : ℕ) (v : Value) (xs : List Delta) (o : Option (List Delta)) → i < length vs → v ≡ get_or vs i v → None ≡ delta_in (view v) → o ≡ behind xs (deltas_of (items_view (drop i vs))) → None ≡ o
deltas-none vs i v xs o h e n l = sym (l ∙ ap (behind xs) (at vs i v h e ∙ ap (λ (d : Option Delta). cons_if d (deltas_of (items_view (drop (i + 1) vs)))) (sym n)))

one-more : (xs : List Delta) (d : Delta) (o : Option (List Delta)) → behind xs (cons_if (Some d) o) ≡ behind (xs ++ d ∷ []) o
one-more xs d None = refl
one-more xs d (Some ds) = ap Some (sym (append_assoc xs (d ∷ []) ds))

pub deltas-step : (vs : List Value) (i : ℕ) (v : Value) (d : Delta) (xs : List Delta) (o : Option (List Delta)) → i < length vs → v ≡ get_or vs i v → Some d ≡ delta_in (view v) → o ≡ behind xs (deltas_of (items_view (drop i vs))) → o ≡ behind (xs ++ d ∷ []) (deltas_of (items_view (drop (i + 1) vs)))
deltas-step vs i v d xs o h e n l = l ∙ ap (behind xs) (at vs i v h e ∙ ap (λ (d : Option Delta). cons_if d (deltas_of (items_view (drop (i + 1) vs)))) (sym n)) ∙ one-more xs d _

-- ---- a delta that is made of its parts

own : (k : List ℕ) (kind : Kind) (v : Option (List ℕ)) (t : tells kind v ≡ true) → Some (record { key = k; kind = kind; value = v; told = t }) ≡ delta_with k kind v
own k New None t = absurd (true≢false (sym t))
own k New (Some v) t = ap (λ (p : true ≡ true). Some (record { key = k; kind = New; value = Some v; told = p })) (Bool-set true true t refl)
own k Updated None t = absurd (true≢false (sym t))
own k Updated (Some v) t = ap (λ (p : true ≡ true). Some (record { key = k; kind = Updated; value = Some v; told = p })) (Bool-set true true t refl)
own k Deleted None t = ap (λ (p : true ≡ true). Some (record { key = k; kind = Deleted; value = None; told = p })) (Bool-set true true t refl)
own k Deleted (Some v) t = absurd (true≢false (sym t))

pub is_with : (d : Delta) (k : List ℕ) (v : Option (List ℕ)) → d.key ≡ k → d.value ≡ v → Some d ≡ delta_with k d.kind v
is_with d k v e f = own d.key d.kind d.value d.told ∙ ap (λ (x : List ℕ). delta_with x d.kind d.value) e ∙ ap (λ (x : Option (List ℕ)). delta_with k d.kind x) f
