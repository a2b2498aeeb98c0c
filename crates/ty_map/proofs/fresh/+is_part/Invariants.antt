use Rattle.ty_map.specs.Shape.{height}
use Rattle.ty_map.proofs.fresh.+is_part.Given as goal

abbrev pub decreases-is_part : goal.decreases-is_part
decreases-is_part l = height l.whole.now
