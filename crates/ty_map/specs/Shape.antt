-- A tree of pairs, each node with its height. What a map's tree is seen as: which parts are shared is no part of it.
use Rattle.std.specs.Prelude.{◌≡◌, ℕ, ◌+◌, ◌≤◌, max, List, [], ◌∷◌, ◌++◌}
use Rattle.ty_base.specs.Feed.{Pairs}

pub data Shape : Type 0 where
  Empty : Shape
  Fork : Shape → List ℕ × List ℕ → Shape → ℕ → Shape

-- the pairs in order
abbrev pub pairs : Shape → Pairs
pairs Empty = []
pairs (Fork l e r h) = pairs l ++ e ∷ pairs r

abbrev pub height : Shape → ℕ
height Empty = 0
height (Fork l e r h) = h

-- neither height is more than this above the other
abbrev pub DifferByAtMost : ℕ → ℕ → ℕ → Type 0
DifferByAtMost by l r = (l ≤ r + by) × (r ≤ l + by)

-- each node's height is one above the higher side's, and its sides differ by at most one
abbrev pub IsBalanced : Shape → Type 0
IsBalanced Empty = Unit {0}
IsBalanced (Fork l e r h) = IsBalanced l × IsBalanced r × (h ≡ max (height l) (height r) + 1) × DifferByAtMost 1 (height l) (height r)
