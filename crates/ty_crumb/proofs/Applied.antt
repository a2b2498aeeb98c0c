-- One pending key more, and what holds when all have their values.
use Rattle.std.proofs.Common.{◌≡◌, ℕ, ◌+◌, ◌*◌, ◌^◌, ◌≤◌, Bool, true, false, cond, ◌||◌, List, [], ◌∷◌, ◌++◌, append_assoc, append-nil, length, map, refl, sym, ap, subst, ◌∙◌, true≢false, arith}
use Rattle.std.specs.Prelude.{Option, None, Some, IfNone, is_some}
use Rattle.std.specs.List.{fold, filter_map, cons_option, list_any}
use Rattle.std.specs.Str.{bytes_eq}
use Rattle.std.specs.Cmp.Lexicographic.{bytes_decides}
use Rattle.std.proofs.lemmas.List.Sums.{fold_push}
use Rattle.ty_base.specs.declared.item.Item.{Item}
use Rattle.ty_base.specs.declared.delta.Delta.{Delta}
use Rattle.ty_base.specs.Feed.{Pairs, get, change, changed, put_value, key_of, firsts}
use Rattle.ty_base.specs.Readings.{last_put}
use Rattle.ty_base.proofs.Pairs.{get-put_value}
use Rattle.ty_map.specs.Ascending.{IsAscending}
use Rattle.ty_map.specs.Changes.{kind_of}
use Rattle.ty_map.specs.Fresh.{fresh}
use Rattle.ty_map.specs.Shape.{Shape, pairs, height}
use Rattle.ty_dedupe.specs.Pending.{pending}
use Rattle.ty_dedupe.proofs.Pending.{Distinct, distinct_firsts}
use Rattle.ty_crumb.specs.Crumbs.{most_fresh}
use Rattle.ty_crumb.specs.steps.Applied.{Pending, AreApart, changes_of, Applied}
use Rattle.ty_crumb.specs.steps.Deltas.{updated, deleted, delta_of}
use Rattle.ty_crumb.proofs.Spent.{spent_start, spent_more, spent_end}

-- What is told

-- what a put changes, by its kind
pub told_by_kind : (k : List ℕ) (o : Option (List ℕ)) (v : List ℕ) → delta_of (kind_of (change k o (Some v))) k v ≡ change k o (Some v)
told_by_kind k None v = refl
told_by_kind k (Some u) v =
    elim (bytes_eq u v) as (λ b. delta_of (kind_of (cond b None (Some (updated k v)))) k v ≡ cond b None (Some (updated k v))) [
      | true ↦ refl
      | false ↦ refl
    ]

-- what a removal changes, by whether the key was there
pub told_by_place : (k : List ℕ) (o : Option (List ℕ)) → cond (is_some o) (Some (deleted k)) None ≡ change k o None
told_by_place k None = refl
told_by_place k (Some u) = refl

abbrev led : Pairs → Option Delta → Pairs
led m None = m
led m (Some d) = changed m d

-- what is told leads to the map with the value
leads : (m next : Pairs) (k : List ℕ) (o v : Option (List ℕ)) → next ≡ put_value m k v → (change k o v ≡ None → next ≡ m) → next ≡ led m (change k o v)
leads m next k None None e s = s refl
leads m next k None (Some y) e s = e
leads m next k (Some x) None e s = e
leads m next k (Some x) (Some y) e s =
    elim (bytes_eq x y) as (λ b. (cond b None (Some (updated k y)) ≡ None → next ≡ m) → next ≡ led m (cond b None (Some (updated k y)))) [
      | true ↦ λ f. f refl
      | false ↦ λ f. e
    ] s

led_fold : (m : Pairs) (ds : List Delta) (d : Option Delta) → led (fold changed m ds) d ≡ fold changed m (ds ++ cons_option d [])
led_fold m ds None = sym (ap (fold changed m) (append-nil ds))
led_fold m ds (Some d) = sym (fold_push changed m ds d)

at_none : {A : Type 0} (d : Option Delta) → d ≡ None → IfNone d A → A
at_none None e h = h
at_none (Some d) e h = absurd (true≢false (ap is_some e))

abbrev has_some : List Delta → Bool
has_some [] = false
has_some (d ∷ ds) = true

nothing : (ds : List Delta) (d : Option Delta) → ds ++ cons_option d [] ≡ [] → (ds ≡ []) × (d ≡ None)
nothing [] None h = (refl, refl)
nothing [] (Some d) h = absurd (true≢false (ap has_some h))
nothing (x ∷ ds) d h = absurd (true≢false (ap has_some h))

front : (d : Option Delta) (ds : List Delta) → cons_option d [] ++ ds ≡ cons_option d ds
front None ds = refl
front (Some d) ds = refl

-- Other keys keep what they have

or_both : (a b : Bool) → (a || b) ≡ false → (a ≡ false) × (b ≡ false)
or_both true b h = absurd (true≢false h)
or_both false b h = (refl, h)

turned : (k q : List ℕ) → bytes_eq k q ≡ false → bytes_eq q k ≡ false
turned k q h =
    elim (bytes_eq q k) as (λ b. bytes_eq q k ≡ b → b ≡ false) [
      | true ↦ λ p. absurd (true≢false (sym ((bytes_decides k q).1 (sym ((bytes_decides q k).0 p))) ∙ h))
      | false ↦ λ p. refl
    ] refl

told_kept : (m n : Pairs) (k : List ℕ) (v : Option (List ℕ)) (ps : Pending) → n ≡ put_value m k v → list_any (bytes_eq k) (map (λ q. q.0) ps) ≡ false → changes_of n ps ≡ changes_of m ps
told_kept m n k v [] e h = refl
told_kept m n k v (q ∷ ps) e h =
    let s = or_both (bytes_eq k q.0) (list_any (bytes_eq k) (map (λ x. x.0) ps)) h in
    let here : get n q.0 ≡ get m q.0 = ap (λ x. get x q.0) e ∙ get-put_value m k v q.0 ∙ ap (λ b. cond b v (get m q.0)) (turned k q.0 s.0) in
    ap (λ o. cons_option (change q.0 o q.1) (changes_of n ps)) here ∙ ap (λ xs. cons_option (change q.0 (get m q.0) q.1) xs) (told_kept m n k v ps e s.1)

-- The loop

pub applied_none : (old : Shape) (all rest : Pending) (ds : List Delta) → ds ≡ [] → rest ≡ all → AreApart all → Applied old all old ds rest
applied_none old all rest ds e is apart =
    let start : Applied old all old [] all = record {
      told = refl;
      led = refl;
      same = λ n. refl;
      apart = apart;
      spent = spent_start old old (length all) refl;
    } in
    let P : Pending → Type 0 = Applied old all old ds in subst P (sym is) (subst (λ x. Applied old all old x all) (sym e) start)

pub applied_more : (old now next : Shape) (all before rest : Pending) (p : List ℕ × Option (List ℕ)) (ds more : List Delta) (d : Option Delta)
    → Applied old all now ds before → before ≡ p ∷ rest → d ≡ change p.0 (get (pairs now) p.0) p.1 → pairs next ≡ put_value (pairs now) p.0 p.1 → IfNone d (next ≡ now)
    → IsAscending (pairs now) → 2 ^ height now ≤ (length (pairs now) + 1) ^ 2 → fresh now next ≤ 3 * (height now + 1) → more ≡ ds ++ cons_option d [] → Applied old all next more rest
applied_more old now next all before rest p ds more d done is told e same ascending low few push =
    let P : Pending → Type 0 = Applied old all now ds in
    let h : Applied old all now ds (p ∷ rest) = subst P is done in
    let quiet : change p.0 (get (pairs now) p.0) p.1 ≡ None → pairs next ≡ pairs now = λ n. ap pairs (at_none {A = next ≡ now} d (told ∙ n) same) in
    record {
      told =
          ap (λ z. z ++ changes_of (pairs next) rest) push
          ∙ append_assoc ds (cons_option d []) (changes_of (pairs next) rest)
          ∙ ap (λ z. ds ++ z) (front d (changes_of (pairs next) rest))
          ∙ ap (λ z. ds ++ cons_option d z) (told_kept (pairs now) (pairs next) p.0 p.1 rest e h.apart.0)
          ∙ ap (λ o. ds ++ cons_option o (changes_of (pairs now) rest)) told
          ∙ h.told;
      led =
          leads (pairs now) (pairs next) p.0 (get (pairs now) p.0) p.1 e quiet
          ∙ ap (led (pairs now)) (sym told)
          ∙ ap (λ m. led m d) h.led
          ∙ led_fold (pairs old) ds d
          ∙ ap (fold changed (pairs old)) (sym push);
      same = λ n. let z = nothing ds d (sym push ∙ n) in at_none {A = next ≡ now} d z.1 same ∙ h.same z.0;
      apart = h.apart.1;
      spent = spent_more old now next (length all) (length (p ∷ rest)) (length rest) p.0 p.1 (omega arith) h.spent ascending low e few;
    }

pub all_told : (old now : Shape) (all rest : Pending) (ds : List Delta) → Applied old all now ds rest → rest ≡ [] → ds ≡ changes_of (pairs old) all
all_told old now all rest ds done end = sym (append-nil ds) ∙ ap (λ z. ds ++ changes_of (pairs now) z) (sym end) ∙ done.told

pub few_made : (old now : Shape) (all rest : Pending) (ds : List Delta) → Applied old all now ds rest → fresh old now ≤ most_fresh (length (pairs old)) (length all)
few_made old now all rest ds done = spent_end old now (length all) (length rest) done.spent

-- Pending keys are apart

keys_of : (f : List ℕ → Option (List ℕ)) (ks : List (List ℕ)) → map (λ (p : List ℕ × Option (List ℕ)). p.0) (map (λ k. (k, f k)) ks) ≡ ks
keys_of f [] = refl
keys_of f (k ∷ ks) = ap (λ xs. k ∷ xs) (keys_of f ks)

apart_of : (f : List ℕ → Option (List ℕ)) (ks : List (List ℕ)) → Distinct ks → AreApart (map (λ k. (k, f k)) ks)
apart_of f [] d = tt
apart_of f (k ∷ ks) d = (ap (list_any (bytes_eq k)) (keys_of f ks) ∙ d.0, apart_of f ks d.1)

pub pending_apart : (items : List Item) → AreApart (pending items)
unfolding pending
pending_apart items = apart_of (λ k. last_put k items) (firsts (filter_map key_of items)) (distinct_firsts (filter_map key_of items))
