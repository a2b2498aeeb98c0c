-- What a node of the tree is seen as.
use Rattle.std.specs.Prelude.{ℕ, List}
use Rattle.ty_map.specs.Shape.{Shape, Empty, Fork}
use Rattle.ty_map.specs.declared.tree.Pair.{Pair}
use Rattle.ty_map.specs.declared.tree.Root.{Root}
use Rattle.ty_map.specs.declared.tree.Root.TheVariants.{Leaf, Node}

abbrev pub pair_of : Pair → List ℕ × List ℕ
pair_of p = (p.key, p.value)

abbrev pub shape_of : Root → Shape
shape_of Leaf = Empty
shape_of (Node n) = Fork n.value.left (pair_of n.value.pair.value) n.value.right n.value.height
