-- A node's pairs, and what the order of the keys says of its sides.
use Rattle.std.proofs.Common.{◌≡◌, ◌++◌, ◌∷◌, [], List, refl, ap, sym, subst}
use Rattle.std.specs.Prelude.{Result, Ok, Err, IfOk}
use Rattle.ty_base.specs.Feed.{Pairs}
use Rattle.ty_map.specs.Ascending.{IsAscending}
use Rattle.ty_map.specs.Nodes.{pair_of}
use Rattle.ty_map.specs.declared.tree.Pair.{Pair}

pub joined : {l l' r r' : Pairs} {e e' : Pair} → l ≡ l' → e ≡ e' → r ≡ r' → l ++ pair_of e ∷ r ≡ l' ++ pair_of e' ∷ r'
joined p q s = λ i. p i ++ pair_of (q i) ∷ s i

pub sorted_joined : {l l' r r' : Pairs} {e e' : Pair} → l ≡ l' → e ≡ e' → r ≡ r' → IsAscending (l' ++ pair_of e' ∷ r') → IsAscending (l ++ pair_of e ∷ r)
sorted_joined p q s h = subst IsAscending (sym (joined p q s)) h

pub if_ok-map : {A E : Type 0} {P Q : A → Type 0} → ((x : A) → P x → Q x) → (r : Result A E) → IfOk r P → IfOk r Q
if_ok-map f (Ok x) h = f x h
if_ok-map f (Err e) h = tt

pub append_nil : {X : Type 0} → (xs : List X) → xs ++ [] ≡ xs
append_nil [] = refl
append_nil (x ∷ xs) = ap (λ z. x ∷ z) (append_nil xs)
