-- Links that came back, each behind the one that was given last before.
use Rattle.std.proofs.Common.{◌≡◌, List, [], ◌∷◌, ◌++◌, length, map, refl, ap, ◌∙◌, arith}
use Rattle.std.proofs.lemmas.List.{map-append, length-map}
use Rattle.ty_base.specs.steps.Backs.{pair_up}

pub seconds-pair_up : {A B : Type 0} (xs : List A) (ys : List B) → length xs ≡ length ys → map (λ b. b.1) (pair_up xs ys) ≡ ys
seconds-pair_up [] [] h = refl
seconds-pair_up [] (b ∷ ys) h = absurd (omega (arith, h))
seconds-pair_up (a ∷ xs) [] h = absurd (omega (arith, h))
seconds-pair_up {A} {B} (a ∷ xs) (b ∷ ys) h = ap (λ (l : List B). b ∷ l) (seconds-pair_up xs ys (omega (arith, h)))

pub pair_up-push : {A B : Type 0} (xs : List A) (ys : List B) (x : A) (y : B) → length xs ≡ length ys → pair_up (xs ++ x ∷ []) (ys ++ y ∷ []) ≡ pair_up xs ys ++ (x, y) ∷ []
pair_up-push [] [] x y h = refl
pair_up-push [] (b ∷ ys) x y h = absurd (omega (arith, h))
pair_up-push (a ∷ xs) [] x y h = absurd (omega (arith, h))
pair_up-push {A} {B} (a ∷ xs) (b ∷ ys) x y h = ap (λ (l : List (A × B)). (a, b) ∷ l) (pair_up-push xs ys x y (omega (arith, h)))

-- the same of lists that grew at their ends
pub one_more_back : {S A B : Type 0} (f : S → A) (xs xs' : List S) (ys ys' : List B) (s : S) (a : A) (y : B) → length xs ≡ length ys → xs' ≡ xs ++ s ∷ [] → ys' ≡ ys ++ y ∷ [] → f s ≡ a → pair_up (map f xs') ys' ≡ pair_up (map f xs) ys ++ (a, y) ∷ []
one_more_back {S} {A} {B} f xs xs' ys ys' s a y len d e is =
    ap (λ (l : List S). pair_up (map f l) ys') d
    ∙ ap (λ (l : List B). pair_up (map f (xs ++ s ∷ [])) l) e
    ∙ ap (λ (l : List A). pair_up l (ys ++ y ∷ [])) (map-append f xs (s ∷ []))
    ∙ pair_up-push (map f xs) ys (f s) y (length-map xs f ∙ len)
    ∙ ap (λ (b : A). pair_up (map f xs) ys ++ (b, y) ∷ []) is
