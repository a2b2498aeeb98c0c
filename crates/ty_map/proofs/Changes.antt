-- A key that keeps what it has leaves the map as it is.
use Rattle.std.proofs.Common.{◌≡◌, ℕ, Bool, true, false, cond, List, refl, sym, ap, ◌∙◌, true≢false}
use Rattle.std.specs.Prelude.{Option, None, Some}
use Rattle.std.specs.Str.{bytes_eq}
use Rattle.std.specs.Cmp.Lexicographic.{bytes_decides}
use Rattle.ty_base.specs.declared.delta.Delta.{Delta}
use Rattle.ty_base.specs.declared.delta.Kind.{Kind}
use Rattle.ty_base.specs.declared.delta.Kind.TheVariants.{New, Updated}
use Rattle.ty_base.specs.Feed.{Pairs, get, insert, remove, change, put_value}
use Rattle.ty_base.proofs.Pairs.{same_pairs, get-put_value, in_order-put_value}
use Rattle.ty_map.specs.Ascending.{IsAscending}
use Rattle.ty_map.specs.Changes.{kind_of, kind_of_put}

abbrev is_told : Option Kind → Bool
is_told None = false
is_told (Some k) = true

untold : (k : Kind) → Some k ≡ None → ⊥
untold k h = true≢false (ap is_told h)

-- a key that isn't told of has the value already
held : (k v : List ℕ) (o : Option (List ℕ)) → kind_of (change k o (Some v)) ≡ None → o ≡ Some v
held k v None h = absurd (untold New h)
held k v (Some u) h =
    let d : Delta = record { key = k; kind = Updated; value = Some v; told = refl } in
    elim (bytes_eq u v) as (λ b. bytes_eq u v ≡ b → kind_of (cond b None (Some d)) ≡ None → Some u ≡ Some v) [
      | true ↦ λ p e. ap Some ((bytes_decides u v).0 p)
      | false ↦ λ p e. absurd (untold Updated e)
    ] refl h

-- what a map has at each key, after one of them is given what it has
same_at : (m : Pairs) (k : List ℕ) (o : Option (List ℕ)) → get m k ≡ o → (q : List ℕ) → get m q ≡ get (put_value m k o) q
same_at m k o h q =
    (elim (bytes_eq q k) as (λ b. bytes_eq q k ≡ b → get m q ≡ cond b o (get m q)) [
      | true ↦ λ p. ap (get m) ((bytes_decides q k).0 p) ∙ h
      | false ↦ λ p. refl
    ] refl)
    ∙ sym (get-put_value m k o q)

same_map : (m : Pairs) (k : List ℕ) (o : Option (List ℕ)) → IsAscending m → get m k ≡ o → m ≡ put_value m k o
same_map m k o s h = same_pairs m (put_value m k o) s (in_order-put_value m k o s) (same_at m k o h)

pub kept : (m : Pairs) (k v : List ℕ) → IsAscending m → kind_of_put m k v ≡ None → m ≡ insert m k v
kept m k v s h = same_map m k (Some v) s (held k v (get m k) h)

pub absent : (m : Pairs) (k : List ℕ) → IsAscending m → get m k ≡ None → m ≡ remove m k
absent m k s h = same_map m k None s h
