-- Which nodes of a tree are in no part of an older one.
use Rattle.std.specs.Prelude.{◌≡◌, ℕ, ◌+◌, Bool, true, false, ◌&&◌, ◌||◌, ◌==◌, if◌then◌else◌, List, [], ◌∷◌, map}
use Rattle.std.specs.List.{list_any}
use Rattle.std.specs.Str.{bytes_eq}
use Rattle.ty_base.specs.Feed.{same_pair}
use Rattle.ty_map.specs.Shape.{Shape, Empty, Fork, pairs}

-- the two trees are one, as values
abbrev pub same_shape : Shape → Shape → Bool
same_shape Empty Empty = true
same_shape Empty (Fork l e r h) = false
same_shape (Fork l e r h) Empty = false
same_shape (Fork l e r h) (Fork m f s k) = same_pair e f && ((h == k) && (same_shape l m && same_shape r s))

-- the tree t is one of the subtrees of a tree
abbrev pub is_subtree : Shape → Shape → Bool
is_subtree t Empty = same_shape t Empty
is_subtree t (Fork l e r h) = same_shape t (Fork l e r h) || (is_subtree t l || is_subtree t r)

-- how many nodes of a tree are in no subtree of the old one
unfoldable pub fresh : Shape → Shape → ℕ
fresh old Empty = 0
fresh old (Fork l e r h) = if is_subtree (Fork l e r h) old then 0 else 1 + fresh old l + fresh old r

-- no text of a list stands twice in it
abbrev pub AllDiffer : List (List ℕ) → Type 0
AllDiffer [] = Unit {0}
AllDiffer (k ∷ ks) = (list_any (bytes_eq k) ks ≡ false) × AllDiffer ks

-- no key of a tree stands twice
abbrev pub HasNoKeyTwice : Shape → Type 0
HasNoKeyTwice t = AllDiffer (map (λ e. e.0) (pairs t))
