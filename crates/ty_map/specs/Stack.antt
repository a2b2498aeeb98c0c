-- The trees that a walk has still to finish, the lowest first.
use Rattle.std.specs.Prelude.{List, [], ◌∷◌, ◌++◌, map, reverse}
use Rattle.std.proofs.Common.{Bor}
use Rattle.ty_base.specs.Feed.{Pairs}
use Rattle.ty_map.specs.Shape.{Shape, Empty, Fork, pairs}

-- the trees of a stack, its top first
abbrev pub stacked : List (Bor Shape) → List Shape
stacked ts = reverse (map (λ t. t.now) ts)

-- the pairs that are left: of each tree its own and those of its right side
abbrev pub rest : List Shape → Pairs
rest [] = []
rest (Empty ∷ ts) = rest ts
rest (Fork l e r h ∷ ts) = (e ∷ pairs r) ++ rest ts
