-- How much room a walk's stack needs.
use Rattle.std.specs.Prelude.{ℕ, ◌+◌, ◌<◌, ◌≤◌, List, [], ◌∷◌, length}
use Rattle.ty_map.specs.Shape.{Shape, height}

-- each tree of the stack has a node, and room for all that it may put in its own place
abbrev pub HasRoom : ℕ → List Shape → Type 0
HasRoom room [] = Unit {0}
HasRoom room (t ∷ ts) = (0 < height t) × (height t + length ts ≤ room) × HasRoom room ts
