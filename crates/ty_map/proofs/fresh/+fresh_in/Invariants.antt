use Rattle.ty_map.specs.Shape.{height}
use Rattle.ty_map.proofs.fresh.+fresh_in.Given as goal

abbrev pub decreases-fresh_in : goal.decreases-fresh_in
decreases-fresh_in l = height l.new.now
