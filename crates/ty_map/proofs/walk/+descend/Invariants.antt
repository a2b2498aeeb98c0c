use Rattle.ty_map.specs.Shape.{height}
use Rattle.ty_map.proofs.walk.+descend.Given as goal

abbrev pub decreases-descend : goal.decreases-descend
decreases-descend l = height l.tree.now
