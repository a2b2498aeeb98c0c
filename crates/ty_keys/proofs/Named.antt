-- Plurals.
use Rattle.std.proofs.Common.{◌≡◌, ℕ, Bool, true, false, cond, not, List, [], ◌∷◌, Option, Some, None, refl, sym, ap, subst, true≢false}
use Rattle.std.specs.List.{list_all, find}
use Rattle.std.specs.Str.{bytes_eq}
use Rattle.std.proofs.lemmas.Slice.Eq.{bytes_eq-Decides}
use Rattle.ty_keys.specs.Faults.{is_slash}
use Rattle.ty_keys.specs.Plurals.{Kind, kinds, kind_of, is_plural, is_due}
use Rattle.ty_keys.proofs.Units.{and_left, and_right}

-- two texts that are tested to be one
pub same_text : (s w : List ℕ) → bytes_eq s w ≡ true → s ≡ w
same_text s w h = (bytes_eq-Decides s w).0 h

pub same_text_again : (s : List ℕ) → bytes_eq s s ≡ true
same_text_again s = (bytes_eq-Decides s s).1 refl

abbrev some : {X : Type 0} → X → Option X
some x = Some x

some_same : {X : Type 0} (x y : X) → some x ≡ some y → x ≡ y
some_same x y h = cc

-- what is found passes, and has what all have
find_passes : {X : Type 0} (t : X → Bool) (xs : List X) (x : X) → find t xs ≡ Some x → t x ≡ true
find_passes t [] x h = absurd cc
find_passes t (y ∷ ys) x h =
    elim (t y) as (λ v. t y ≡ v → cond v (Some y) (find t ys) ≡ Some x → t x ≡ true) [
      | true ↦ λ e g. subst (λ z. t z ≡ true) (some_same y x g) e
      | false ↦ λ e g. find_passes t ys x g
    ] refl h

find_keeps : {X : Type 0} (q t : X → Bool) (xs : List X) (x : X) → list_all q xs ≡ true → find t xs ≡ Some x → q x ≡ true
find_keeps q t [] x a h = absurd cc
find_keeps q t (y ∷ ys) x a h =
    elim (t y) as (λ v. cond v (Some y) (find t ys) ≡ Some x → q x ≡ true) [
      | true ↦ λ g. subst (λ z. q z ≡ true) (some_same y x g) (and_left (q y) (list_all q ys) a)
      | false ↦ λ g. find_keeps q t ys x (and_right (q y) (list_all q ys) a) g
    ] h

pub plural_is : (p : List ℕ) (k : Kind) → kind_of p ≡ Some k → p ≡ k.plural
unfolding kind_of
plural_is p k h = same_text p k.plural (find_passes (λ k. bytes_eq p k.plural) kinds k h)

-- no slash stands in it
abbrev pub is_clear : List ℕ → Bool
is_clear s = list_all (λ b. not (is_slash b)) s

plural_clear : (p : List ℕ) (k : Kind) → kind_of p ≡ Some k → is_clear p ≡ true
unfolding kind_of
plural_clear p k h = subst (λ (s : List ℕ). is_clear s ≡ true) (sym (plural_is p k h)) (find_keeps (λ k. is_clear k.plural) (λ k. bytes_eq p k.plural) kinds k refl h)

-- the kind behind a plural that is due
pub record Named (namespaced : Bool) (p : List ℕ) : Type 0 where
  pub kind : Kind
  pub named : kind_of p ≡ Some kind
  pub plural : p ≡ kind.plural
  pub due : kind.namespaced ≡ namespaced
  pub clear : is_clear p ≡ true

not_is : (b : Bool) → not b ≡ true → b ≡ false
not_is true h = absurd (true≢false (sym h))
not_is false h = refl

due_is : (n : Bool) (k : Kind) → is_due n (Some k) ≡ true → k.namespaced ≡ n
due_is true k h = h
due_is false k h = not_is k.namespaced h

none_due : (n : Bool) → is_due n None ≡ true → ⊥
none_due true h = true≢false (sym h)
none_due false h = true≢false (sym h)

pub due_again : (n : Bool) (k : Kind) → k.namespaced ≡ n → is_due n (Some k) ≡ true
due_again true k h = h
due_again false k h = ap not h

pub named_by : (n : Bool) (p : List ℕ) → is_plural n p ≡ true → Named n p
named_by n p h =
    elim (kind_of p) as (λ o. kind_of p ≡ o → is_due n o ≡ true → Named n p) [
      | None ↦ λ e g. absurd (none_due n g)
      | Some k ↦ λ e g. record { kind = k; named = e; plural = plural_is p k e; due = due_is n k g; clear = plural_clear p k e }
    ] refl h
