use Rattle.ty_map.specs.Shape.{height}
use Rattle.ty_map.proofs.fresh.+is_same.Given as goal

abbrev pub decreases-is_same : goal.decreases-is_same
decreases-is_same l = height l.one.now
