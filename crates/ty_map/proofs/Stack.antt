-- One tree more on a walk's stack, or one less.
use Rattle.std.proofs.Common.{◌≡◌, ℕ, ◌≤◌, List, [], ◌∷◌, ◌++◌, length, map, reverse, ap, ◌∙◌, arith, Bor}
use Rattle.std.proofs.lemmas.List.{reverse-append, map-append, length-reverse, length-map}
use Rattle.ty_map.specs.Shape.{Shape}
use Rattle.ty_map.specs.Stack.{stacked}
use Rattle.ty_map.specs.steps.Stack.{HasRoom}

pub stacked_push : (ts : List (Bor Shape)) (t : Bor Shape) → stacked (ts ++ t ∷ []) ≡ t.now ∷ stacked ts
stacked_push ts t = ap reverse (map-append (λ x. x.now) ts (t ∷ [])) ∙ reverse-append (map (λ x. x.now) ts) (t.now ∷ [])

pub length-stacked : (ts : List (Bor Shape)) → length (stacked ts) ≡ length ts
length-stacked ts = length-reverse (map (λ x. x.now) ts) ∙ length-map ts (λ x. x.now)

pub more_room : (n m : ℕ) (ts : List Shape) → n ≤ m → HasRoom n ts → HasRoom m ts
more_room n m [] le h = tt
more_room n m (t ∷ ts) le h = (h.0, omega (arith, h.1), more_room n m ts le h.2)
