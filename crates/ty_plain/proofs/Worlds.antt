-- Two worlds compared at the keys of the items between them.
use Rattle.std.proofs.Common.{◌≡◌, ℕ, ◌+◌, ◌<◌, Bool, true, false, cond, ◌&&◌, ◌||◌, List, [], ◌∷◌, ◌++◌, refl, sym, ap, ◌∙◌, true≢false, length, drop, get_or, drop-cons, add-one, append_assoc}
use Rattle.std.specs.Prelude.{Option, None, Some}
use Rattle.std.specs.Bool.{Decides}
use Rattle.std.specs.List.{fold, list_any, list_all, filter_map}
use Rattle.std.specs.Str.{bytes_eq}
use Rattle.std.specs.Cmp.Lexicographic.{bytes_decides}
use Rattle.std.proofs.lemmas.Bool.Decides.{same_from_decides}
use Rattle.ty_base.specs.declared.item.Item.{Item}
use Rattle.ty_base.specs.declared.item.Item.TheVariants.{Put, Del, State, Mark}
use Rattle.ty_base.specs.Feed.{World, after, get, same_world, key_of, world_at, cuts_after}
use Rattle.ty_base.specs.Statuses.{same_status}
use Rattle.ty_base.proofs.Pairs.{IsInOrder, same_pairs, worlds_decide, same_statuses, itself, kept_key}
use Rattle.ty_plain.specs.steps.Scans.{same_option, agrees}

same_options : (x y : Option (List ℕ)) → same_option x y ≡ true → x ≡ y
same_options None None h = refl
same_options None (Some v) h = absurd (true≢false (sym h))
same_options (Some u) None h = absurd (true≢false (sym h))
same_options (Some u) (Some v) h = ap Some ((bytes_decides u v).0 h)

option_itself : (x : Option (List ℕ)) → same_option x x ≡ true
option_itself None = refl
option_itself (Some v) = (bytes_decides v v).1 refl

both : (a b : Bool) → (a && b) ≡ true → (a ≡ true) × (b ≡ true)
both true b h = (refl, h)
both false b h = absurd (true≢false (sym h))

abbrev Found : World → World → List Item → List ℕ → Type 0
Found a b xs q = list_all (agrees a b) xs ≡ true → list_any (bytes_eq q) (filter_map key_of xs) ≡ true → get a.pairs q ≡ get b.pairs q

here : (a b : World) (k : List ℕ) (xs : List Item) (q : List ℕ) → Found a b xs q → (same_option (get a.pairs k) (get b.pairs k) ≡ true) × (list_all (agrees a b) xs ≡ true) → (bytes_eq q k || list_any (bytes_eq q) (filter_map key_of xs)) ≡ true → get a.pairs q ≡ get b.pairs q
here a b k xs q rest h t =
    elim (bytes_eq q k) as (λ v. bytes_eq q k ≡ v → (v || list_any (bytes_eq q) (filter_map key_of xs)) ≡ true → get a.pairs q ≡ get b.pairs q) [
      | true ↦ λ s u. let same : q ≡ k = (bytes_decides q k).0 s in ap (get a.pairs) same ∙ same_options _ _ h.0 ∙ ap (get b.pairs) (sym same)
      | false ↦ λ s u. rest h.1 u
    ] refl t

-- where all items agree, so does each of their keys
at_key : (a b : World) (xs : List Item) (q : List ℕ) → list_all (agrees a b) xs ≡ true → list_any (bytes_eq q) (filter_map key_of xs) ≡ true → get a.pairs q ≡ get b.pairs q
at_key a b [] q h t = absurd (true≢false (sym t))
at_key a b (Put k v ∷ xs) q h t = here a b k xs q (at_key a b xs q) (both _ _ h) t
at_key a b (Del k ∷ xs) q h t = here a b k xs q (at_key a b xs q) (both _ _ h) t
at_key a b (State s ∷ xs) q h t = at_key a b xs q h t
at_key a b (Mark ∷ xs) q h t = at_key a b xs q h t

all_agree_itself : (a : World) (xs : List Item) → list_all (agrees a a) xs ≡ true
all_agree_itself a [] = refl
all_agree_itself a (Put k v ∷ xs) = ap (λ t. t && list_all (agrees a a) xs) (option_itself (get a.pairs k)) ∙ all_agree_itself a xs
all_agree_itself a (Del k ∷ xs) = ap (λ t. t && list_all (agrees a a) xs) (option_itself (get a.pairs k)) ∙ all_agree_itself a xs
all_agree_itself a (State s ∷ xs) = all_agree_itself a xs
all_agree_itself a (Mark ∷ xs) = all_agree_itself a xs

pub worlds_compare : (a b : World) (batch : List Item) → IsInOrder a.pairs → IsInOrder b.pairs → b ≡ fold after a batch → (same_status a.status b.status && list_all (agrees a b) batch) ≡ same_world a b
worlds_compare a b batch sa sb e =
    let D : Bool → Type 0 = λ r. Decides r (a ≡ b) in
    let left : D (same_status a.status b.status && list_all (agrees a b) batch) = (
      (λ h. let p : (same_status a.status b.status ≡ true) × (list_all (agrees a b) batch ≡ true) = both _ _ h in
          let same : a.pairs ≡ b.pairs = same_pairs a.pairs b.pairs sa sb (λ q. elim (list_any (bytes_eq q) (filter_map key_of batch)) as (λ v. list_any (bytes_eq q) (filter_map key_of batch) ≡ v → get a.pairs q ≡ get b.pairs q) [
            | true ↦ λ t. at_key a b batch q p.1 t
            | false ↦ λ t. sym (ap (λ w. get w.pairs q) e ∙ kept_key batch a q t)
          ] refl) in
          let status : a.status ≡ b.status = same_statuses a.status b.status p.0 in
          λ i. record { pairs = same i; status = status i }),
      (λ h. ap (λ w. same_status a.status w.status && list_all (agrees a w) batch) (sym h) ∙ ap (λ t. t && list_all (agrees a a) batch) (itself a.status) ∙ all_agree_itself a batch),
    ) in
    same_from_decides _ _ left (worlds_decide a b)

next_position : (ps : List ℕ) (i : ℕ) → i < length ps → drop i ps ≡ get_or ps i 0 ∷ drop (i + 1) ps
next_position ps i h = drop-cons ps i 0 h ∙ ap (λ k. get_or ps i 0 ∷ drop k ps) (sym (add-one i))

pub cut_taken : (items : List Item) (c : ℕ) (ps done all : List ℕ) (i : ℕ) → i < length ps → same_world (world_at items c) (world_at items (get_or ps i 0)) ≡ false
    → done ++ cuts_after items c (drop i ps) ≡ all → (done ++ get_or ps i 0 ∷ []) ++ cuts_after items (get_or ps i 0) (drop (i + 1) ps) ≡ all
unfolding cuts_after
cut_taken items c ps done all i h t told =
    let p : ℕ = get_or ps i 0 in
    append_assoc done (p ∷ []) (cuts_after items p (drop (i + 1) ps))
    ∙ ap (λ b. done ++ cond b (cuts_after items c (drop (i + 1) ps)) (p ∷ cuts_after items p (drop (i + 1) ps))) (sym t)
    ∙ ap (λ xs. done ++ cuts_after items c xs) (sym (next_position ps i h))
    ∙ told

pub cut_passed : (items : List Item) (c : ℕ) (ps done all : List ℕ) (i : ℕ) → i < length ps → same_world (world_at items c) (world_at items (get_or ps i 0)) ≡ true
    → done ++ cuts_after items c (drop i ps) ≡ all → done ++ cuts_after items c (drop (i + 1) ps) ≡ all
unfolding cuts_after
cut_passed items c ps done all i h t told =
    let p : ℕ = get_or ps i 0 in
    ap (λ b. done ++ cond b (cuts_after items c (drop (i + 1) ps)) (p ∷ cuts_after items p (drop (i + 1) ps))) (sym t)
    ∙ ap (λ xs. done ++ cuts_after items c xs) (sym (next_position ps i h))
    ∙ told

pub at_more : (d : ℕ) (ps : List ℕ) (i : ℕ) → get_or (d ∷ ps) (i + 1) 0 ≡ get_or ps i 0
at_more d ps i = ap (λ k. get_or (d ∷ ps) k 0) (add-one i)
