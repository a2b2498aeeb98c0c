-- What holds of each node of a tree, and what joining two sides may come to.
use Rattle.std.specs.Prelude.{◌≡◌, ℕ, ◌+◌, ◌≤◌, max, ◌∷◌, ◌++◌, length, Option, None, Some}
use Rattle.ty_map.specs.Ascending.{IsAscending}
use Rattle.ty_map.specs.Fresh.{fresh}
use Rattle.ty_map.specs.Nodes.{pair_of}
use Rattle.ty_map.specs.Shape.{Shape, Fork, pairs, height, IsBalanced, DifferByAtMost}
use Rattle.ty_map.specs.declared.tree.Node.{Node as Fields}
use Rattle.ty_map.specs.declared.tree.Root.{Root}
use Rattle.ty_map.specs.declared.tree.Root.TheVariants.{Leaf, Node}

-- the keys rise, the stored height is right, the sides differ by at most one, the stored count is right, and each side is balanced
abbrev pub IsSound : Fields → Type 0
IsSound n =
    IsAscending (pairs n.left ++ pair_of n.pair.value ∷ pairs n.right)
    × (n.height ≡ max (height n.left) (height n.right) + 1)
    × DifferByAtMost 1 (height n.left) (height n.right)
    × (n.count ≡ length (pairs n.left ++ pair_of n.pair.value ∷ pairs n.right))
    × IsBalanced n.left
    × IsBalanced n.right

abbrev pub IsAvl : Root → Type 0
IsAvl Leaf = Unit {0}
IsAvl (Node n) = IsSound n.value

-- the height h of what a node with sides l and r settles to
abbrev pub IsHeightAfterRebalance : ℕ → ℕ → ℕ → Type 0
IsHeightAfterRebalance l r h = (max l r ≤ h) × (h ≤ max l r + 1) × (DifferByAtMost 1 l r → h ≡ max l r + 1)

-- at most n nodes of a tree are fresh
abbrev pub AtMostFresh : Shape → Shape → ℕ → Type 0
AtMostFresh old t n = fresh old t ≤ n

-- a node without one of its sides, which had this height and so many pairs, beside the other side
abbrev pub IsOpen : Fields → ℕ → ℕ → Shape → Type 0
IsOpen n before count other =
    (n.height ≡ max before (height other) + 1) × DifferByAtMost 1 before (height other) × (n.count ≡ count + (1 + length (pairs other))) × IsBalanced other

-- what a node has become: another tree, where there is one, or itself
abbrev pub settled : Fields → Option Shape → Shape
settled n (Some t) = t
settled n None = Fork n.left (pair_of n.pair.value) n.right n.height
