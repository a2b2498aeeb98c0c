-- Maps, worlds and changes, one key at a time.
use Rattle.std.proofs.Common.{T, ◌≡◌, ◌⊎◌, ℕ, Bool, true, false, cond, not, ◌||◌, List, [], ◌∷◌, refl, sym, ap, ◌∙◌, inl, inr, true≢false}
use Rattle.std.specs.Prelude.{Option, None, Some}
use Rattle.std.specs.Ordering.{nat_cmp}
use Rattle.std.specs.Cmp.Lexicographic.{slice_cmp, bytes_decides, texts_ties, pointwise_decides, nat_list_cmp_total}
use Rattle.std.specs.Bool.{Decides}
use Rattle.std.specs.Str.{bytes_eq}
use Rattle.std.specs.List.{fold, filter, filter_map, list_any}
use Rattle.std.specs.FinMap.{slice_cmp-IsAntisymmetric, nat_cmp-IsAntisymmetric}
use Rattle.std.specs.FinMap.Entries.{is_sorted, is_sorted-put, is_sorted-where_key, same_entries, find-put, find-where_key}
use Rattle.std.proofs.lemmas.Cmp.{nat_list_eq_equiv}
use Rattle.std.proofs.lemmas.Bool.Decides.{Decides-and, Decides-like}
use Rattle.std.proofs.lemmas.Map.Views.{any-filter_same}
use Rattle.ty_base.specs.declared.item.Item.{Item}
use Rattle.ty_base.specs.declared.item.Item.TheVariants.{Put, Del, State, Mark}
use Rattle.ty_base.specs.declared.status.Status.{Status}
use Rattle.ty_base.specs.declared.status.Status.TheVariants.{Wait, Resync, InSync}
use Rattle.ty_base.specs.declared.delta.Kind.TheVariants.{Updated}
use Rattle.ty_base.specs.declared.delta.Delta.{Delta}
use Rattle.ty_base.specs.Statuses.{same_status}
use Rattle.ty_base.specs.Feed.{Pairs, World, after, same_pair, same_world, key_of, firsts, change, changes, changed, put_value, get}

abbrev pub IsInOrder : Pairs → Type 0
IsInOrder m = T (is_sorted (slice_cmp nat_cmp) m)

-- two maps that answer alike are one
pub same_pairs : (a b : Pairs) → IsInOrder a → IsInOrder b → ((q : List ℕ) → get a q ≡ get b q) → a ≡ b
same_pairs a b s t h = same_entries (slice_cmp nat_cmp) nat_list_cmp_total (slice_cmp-IsAntisymmetric nat_cmp-IsAntisymmetric) a b s t h

turned : (b : Bool) (o : Option (List ℕ)) → cond (not b) o None ≡ cond b None o
turned true o = refl
turned false o = refl

pub get-put_value : (m : Pairs) (k : List ℕ) (v : Option (List ℕ)) (q : List ℕ) → get (put_value m k v) q ≡ cond (bytes_eq q k) v (get m q)
get-put_value m k None q =
    find-where_key (slice_cmp nat_cmp) (λ x. not (bytes_eq k x)) q (λ x t. ap (λ y. not (bytes_eq k y)) (sym (slice_cmp-IsAntisymmetric nat_cmp-IsAntisymmetric q x t))) m
    ∙ turned (bytes_eq k q) (get m q)
    ∙ ap (λ b. cond b None (get m q)) (nat_list_eq_equiv.symm k q)
get-put_value m k (Some v) q = find-put (slice_cmp nat_cmp) nat_list_cmp_total q k v m ∙ ap (λ b. cond b (Some v) (get m q)) (sym (texts_ties q k))

pub in_order-put_value : (m : Pairs) (k : List ℕ) (v : Option (List ℕ)) → IsInOrder m → IsInOrder (put_value m k v)
in_order-put_value m k None h = is_sorted-where_key (slice_cmp nat_cmp) (λ x. not (bytes_eq k x)) m h
in_order-put_value m k (Some v) h = is_sorted-put (slice_cmp nat_cmp) nat_list_cmp_total k v m h

pub in_order-changed : (ds : List Delta) (m : Pairs) → IsInOrder m → IsInOrder (fold changed m ds)
in_order-changed [] m h = h
in_order-changed (d ∷ ds) m h = in_order-changed ds (changed m d) (in_order-put_value m d.key d.value h)

pub in_order-after : (items : List Item) (w : World) → IsInOrder w.pairs → IsInOrder (fold after w items).pairs
in_order-after [] w h = h
in_order-after (Put k v ∷ items) w h = in_order-after items (after w (Put k v)) (in_order-put_value w.pairs k (Some v) h)
in_order-after (Del k ∷ items) w h = in_order-after items (after w (Del k)) (in_order-put_value w.pairs k None h)
in_order-after (State s ∷ items) w h = in_order-after items (after w (State s)) h
in_order-after (Mark ∷ items) w h = in_order-after items w h

pub same_statuses : (a b : Status) → same_status a b ≡ true → a ≡ b
same_statuses Wait Wait e = refl
same_statuses Wait Resync e = absurd (true≢false (sym e))
same_statuses Wait InSync e = absurd (true≢false (sym e))
same_statuses Resync Wait e = absurd (true≢false (sym e))
same_statuses Resync Resync e = refl
same_statuses Resync InSync e = absurd (true≢false (sym e))
same_statuses InSync Wait e = absurd (true≢false (sym e))
same_statuses InSync Resync e = absurd (true≢false (sym e))
same_statuses InSync InSync e = refl

pub itself : (a : Status) → same_status a a ≡ true
itself Wait = refl
itself Resync = refl
itself InSync = refl

statuses_decide : (a b : Status) → Decides (same_status a b) (a ≡ b)
statuses_decide a b = (same_statuses a b, λ e. ap (same_status a) (sym e) ∙ itself a)

pairs_decide : (a b : List ℕ × List ℕ) → Decides (same_pair a b) (a ≡ b)
pairs_decide a b = Decides-like (same_pair a b) (λ (p, q). λ i. (p i, q i)) (λ e. (ap (λ x. x.0) e, ap (λ x. x.1) e)) (Decides-and _ _ (bytes_decides a.0 b.0) (bytes_decides a.1 b.1))

-- the test of two worlds says whether they are one
pub worlds_decide : (a b : World) → Decides (same_world a b) (a ≡ b)
worlds_decide a b = Decides-like (same_world a b) (λ (p, q). λ i. record { pairs = p i; status = q i })
    (λ e. (ap (λ w. w.pairs) e, ap (λ w. w.status) e))
    (Decides-and _ _ (pointwise_decides pairs_decide a.pairs b.pairs) (statuses_decide a.status b.status))

or_false : (a b : Bool) → (a || b) ≡ false → (a ≡ false) × (b ≡ false)
or_false true b h = absurd (true≢false h)
or_false false b h = (refl, h)

-- a key of no item keeps its value
pub kept_key : (items : List Item) (w : World) (q : List ℕ) → list_any (bytes_eq q) (filter_map key_of items) ≡ false → get (fold after w items).pairs q ≡ get w.pairs q
kept_key [] w q h = refl
kept_key (Put k v ∷ items) w q h =
    kept_key items (after w (Put k v)) q (or_false _ _ h).1 ∙ get-put_value w.pairs k (Some v) q ∙ ap (λ b. cond b (Some v) (get w.pairs q)) (or_false _ _ h).0
kept_key (Del k ∷ items) w q h =
    kept_key items (after w (Del k)) q (or_false _ _ h).1 ∙ get-put_value w.pairs k None q ∙ ap (λ b. cond b None (get w.pairs q)) (or_false _ _ h).0
kept_key (State s ∷ items) w q h = kept_key items (after w (State s)) q h
kept_key (Mark ∷ items) w q h = kept_key items w q h

other_key : (k q x : List ℕ) → bytes_eq q k ≡ false → bytes_eq q x ≡ true → not (bytes_eq k x) ≡ true
other_key k q x h e =
    let same : q ≡ x = (bytes_decides q x).0 e in
    elim (bytes_eq k x) as (λ v. bytes_eq k x ≡ v → not v ≡ true) [
      | true ↦ λ t. absurd (true≢false (sym ((bytes_decides q k).1 (same ∙ sym ((bytes_decides k x).0 t))) ∙ h))
      | false ↦ λ t. refl
    ] refl

-- each key stands among the first ones as it does in the list
pub firsts_any : (ks : List (List ℕ)) (q : List ℕ) → list_any (bytes_eq q) (firsts ks) ≡ list_any (bytes_eq q) ks
firsts_any [] q = refl
firsts_any (k ∷ ks) q =
    elim (bytes_eq q k) as (λ v. bytes_eq q k ≡ v → (v || list_any (bytes_eq q) (filter (λ x. not (bytes_eq k x)) (firsts ks))) ≡ (v || list_any (bytes_eq q) ks)) [
      | true ↦ λ h. refl
      | false ↦ λ h. any-filter_same (bytes_eq q) (λ x. not (bytes_eq k x)) true (λ x e. other_key k q x h e) (firsts ks) ∙ firsts_any ks q
    ] refl

-- what a change is: nothing where the two values are one, else a delta that puts the second
change_cases : (k : List ℕ) (x y : Option (List ℕ)) → ((change k x y ≡ None) × (x ≡ y)) ⊎ ((d : Delta) × (change k x y ≡ Some d) × (d.key ≡ k) × (d.value ≡ y))
change_cases k None None = inl (refl, refl)
change_cases k None (Some v) = inr (_, refl, refl, refl)
change_cases k (Some u) None = inr (_, refl, refl, refl)
change_cases k (Some u) (Some v) =
    elim (bytes_eq u v) as (λ b. bytes_eq u v ≡ b → let d : Delta = record { key = k; kind = Updated; value = Some v; told = refl } in let o = cond b None (Some d) in ((o ≡ None) × (Some u ≡ Some v)) ⊎ ((e : Delta) × (o ≡ Some e) × (e.key ≡ k) × (e.value ≡ Some v))) [
      | true ↦ λ t. inl (refl, ap Some ((bytes_decides u v).0 t))
      | false ↦ λ t. inr (_, refl, refl, refl)
    ] refl

-- at q the map m has what b has, or what a has where q is still to come
abbrev Settles : Pairs → Pairs → List (List ℕ) → Pairs → List ℕ → Type 0
Settles a b ks m q = (get m q ≡ get b q) ⊎ ((get m q ≡ get a q) × (list_any (bytes_eq q) ks ≡ true))

next_kept : (a b : Pairs) (k : List ℕ) (ks : List (List ℕ)) (m : Pairs) (q : List ℕ) → get a k ≡ get b k → Settles a b (k ∷ ks) m q → Settles a b ks m q
next_kept a b k ks m q e (inl h) = inl h
next_kept a b k ks m q e (inr (h, t)) =
    elim (bytes_eq q k) as (λ v. bytes_eq q k ≡ v → (v || list_any (bytes_eq q) ks) ≡ true → Settles a b ks m q) [
      | true ↦ λ s t'. let same : q ≡ k = (bytes_decides q k).0 s in inl (h ∙ ap (get a) same ∙ e ∙ ap (get b) (sym same))
      | false ↦ λ s t'. inr (h, t')
    ] refl t

next_put : (a b : Pairs) (k : List ℕ) (ks : List (List ℕ)) (m n : Pairs) (q : List ℕ) → get n q ≡ cond (bytes_eq q k) (get b k) (get m q) → Settles a b (k ∷ ks) m q → Settles a b ks n q
next_put a b k ks m n q e h =
    elim (bytes_eq q k) as (λ v. bytes_eq q k ≡ v → get n q ≡ cond v (get b k) (get m q) → (get m q ≡ get b q) ⊎ ((get m q ≡ get a q) × ((v || list_any (bytes_eq q) ks) ≡ true)) → Settles a b ks n q) [
      | true ↦ λ s e' h'. inl (e' ∙ ap (get b) (sym ((bytes_decides q k).0 s)))
      | false ↦ λ s e' h'. elim h' [ inl f ↦ inl (e' ∙ f) | inr f ↦ inr (e' ∙ f.0, f.1) ]
    ] refl e h

-- the changes from a to b, made from m, leave at q what b has
pub settled : (a b : Pairs) (ks : List (List ℕ)) (m : Pairs) (q : List ℕ) → Settles a b ks m q → get (fold changed m (changes a b ks)) q ≡ get b q
settled a b [] m q (inl e) = e
settled a b [] m q (inr (e, h)) = absurd (true≢false (sym h))
settled a b (k ∷ ks) m q h =
    elim (change_cases k (get a k) (get b k)) [
      | inl f ↦ rw f.0 (settled a b ks m q (next_kept a b k ks m q f.1 h))
      | inr f ↦ rw f.1 (settled a b ks (changed m f.0) q (next_put a b k ks m (changed m f.0) q
          (get-put_value m f.0.key f.0.value q ∙ ap (λ x. cond (bytes_eq q x) f.0.value (get m q)) f.2 ∙ ap (λ y. cond (bytes_eq q k) y (get m q)) f.3) h))
    ]

-- the changes from a to b, among keys that hold each at which they differ, lead from a to b
pub changed_all : (a b : Pairs) (ks : List (List ℕ)) → IsInOrder a → IsInOrder b → ((q : List ℕ) → list_any (bytes_eq q) ks ≡ false → get a q ≡ get b q) → fold changed a (changes a b (firsts ks)) ≡ b
changed_all a b ks sa sb h = same_pairs _ b (in_order-changed (changes a b (firsts ks)) a sa) sb (λ q. settled a b (firsts ks) a q
    (elim (list_any (bytes_eq q) ks) as (λ v. list_any (bytes_eq q) ks ≡ v → Settles a b (firsts ks) a q) [
      | true ↦ λ t. inr (refl, firsts_any ks q ∙ t)
      | false ↦ λ t. inl (h q t)
    ] refl))
