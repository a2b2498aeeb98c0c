-- The keys of a batch, each where it stands first, one more item at a time.
use Rattle.std.proofs.Common.{◌≡◌, ℕ, ◌+◌, ◌<◌, Bool, true, false, cond, not, ◌||◌, List, [], ◌∷◌, ◌++◌, length, take, get_or, refl, sym, ap, ◌∙◌, append-nil}
use Rattle.std.specs.Prelude.{None, Some}
use Rattle.std.specs.Option.{option_to_list}
use Rattle.std.specs.List.{filter, filter_map, list_any, cons_option}
use Rattle.std.specs.Str.{bytes_eq}
use Rattle.ty_base.specs.Feed.{get}
use Rattle.std.proofs.lemmas.Cmp.{nat_list_eq_equiv}
use Rattle.std.proofs.lemmas.List.{take_more}
use Rattle.std.proofs.lemmas.List.Elements.{filter-append, filter_map-append}
use Rattle.ty_base.specs.declared.item.Item.{Item}
use Rattle.ty_base.specs.declared.item.Item.TheVariants.{Put, Del, State, Mark}
use Rattle.ty_base.specs.Feed.{Pairs, key_of, firsts, change, changes}
use Rattle.ty_base.specs.Readings.{is_about}
use Rattle.ty_plain.specs.steps.Scans.{unseen_change}

any_keys : (k : List ℕ) (items : List Item) → list_any (bytes_eq k) (filter_map key_of items) ≡ list_any (is_about k) items
any_keys k [] = refl
any_keys k (Put q v ∷ items) = ap (λ b. bytes_eq k q || b) (any_keys k items)
any_keys k (Del q ∷ items) = ap (λ b. bytes_eq k q || b) (any_keys k items)
any_keys k (State s ∷ items) = any_keys k items
any_keys k (Mark ∷ items) = any_keys k items

last_one : (a b : Bool) (k : List ℕ) (p : List ℕ → Bool) → p k ≡ not b → filter p (cond a [] (k ∷ [])) ≡ cond (b || a) [] (k ∷ [])
last_one true true k p e = refl
last_one true false k p e = refl
last_one false true k p e = ap (λ c. cond c (k ∷ []) []) e
last_one false false k p e = ap (λ c. cond c (k ∷ []) []) e

pub firsts_push : (ks : List (List ℕ)) (k : List ℕ) → firsts (ks ++ k ∷ []) ≡ firsts ks ++ cond (list_any (bytes_eq k) ks) [] (k ∷ [])
firsts_push [] k = refl
firsts_push (x ∷ ks) k =
    let p : List ℕ → Bool = λ q. not (bytes_eq x q) in
    ap (λ qs. x ∷ filter p qs) (firsts_push ks k)
    ∙ ap (λ qs. x ∷ qs) (filter-append p (firsts ks) (cond (list_any (bytes_eq k) ks) [] (k ∷ [])))
    ∙ ap (λ qs. x ∷ (filter p (firsts ks) ++ qs)) (last_one (list_any (bytes_eq k) ks) (bytes_eq k x) k p (ap not (nat_list_eq_equiv.symm x k)))

fresh_is : (a b : Pairs) (earlier : List Item) (k : List ℕ) (t : Bool) → list_any (is_about k) earlier ≡ t → filter_map (λ q. change q (get a q) (get b q)) (cond t [] (k ∷ [])) ≡ cond t [] (option_to_list (change k (get a k) (get b k)))
fresh_is a b earlier k true e = refl
fresh_is a b earlier k false e = elim (change k (get a k) (get b k)) as (λ o. cons_option o [] ≡ option_to_list o) [ None ↦ refl | Some d ↦ refl ]

pub changes_push : (a b : Pairs) (earlier : List Item) (k : List ℕ) → changes a b (firsts (filter_map key_of earlier ++ k ∷ [])) ≡ changes a b (firsts (filter_map key_of earlier)) ++ unseen_change a b earlier k
changes_push a b earlier k =
    ap (changes a b) (firsts_push (filter_map key_of earlier) k)
    ∙ filter_map-append (λ q. change q (get a q) (get b q)) (firsts (filter_map key_of earlier)) (cond (list_any (bytes_eq k) (filter_map key_of earlier)) [] (k ∷ []))
    ∙ ap (λ t. changes a b (firsts (filter_map key_of earlier)) ++ filter_map (λ q. change q (get a q) (get b q)) (cond t [] (k ∷ []))) (any_keys k earlier)
    ∙ ap (λ ds. changes a b (firsts (filter_map key_of earlier)) ++ ds) (fresh_is a b earlier k (list_any (is_about k) earlier) refl)

keys_more : (batch : List Item) (i : ℕ) (x : Item) → i < length batch → x ≡ get_or batch i x → filter_map key_of (take (i + 1) batch) ≡ filter_map key_of (take i batch) ++ cons_option (key_of x) []
keys_more batch i x h e = ap (filter_map key_of) (take_more batch i x h) ∙ filter_map-append key_of (take i batch) _ ∙ ap (λ y. filter_map key_of (take i batch) ++ cons_option (key_of y) []) (sym e)

pub step_some : (a b : Pairs) (batch : List Item) (i : ℕ) (x : Item) (k : List ℕ) → i < length batch → x ≡ get_or batch i x → key_of x ≡ Some k
    → changes a b (firsts (filter_map key_of (take (i + 1) batch))) ≡ changes a b (firsts (filter_map key_of (take i batch))) ++ unseen_change a b (take i batch) k
step_some a b batch i x k h e s =
    ap (λ ks. changes a b (firsts ks)) (keys_more batch i x h e ∙ ap (λ o. filter_map key_of (take i batch) ++ cons_option o []) s) ∙ changes_push a b (take i batch) k

pub step_none : (a b : Pairs) (batch : List Item) (i : ℕ) (x : Item) → i < length batch → x ≡ get_or batch i x → key_of x ≡ None
    → changes a b (firsts (filter_map key_of (take (i + 1) batch))) ≡ changes a b (firsts (filter_map key_of (take i batch)))
step_none a b batch i x h e s =
    ap (λ ks. changes a b (firsts ks)) (keys_more batch i x h e ∙ ap (λ o. filter_map key_of (take i batch) ++ cons_option o []) s ∙ append-nil _)
