use Rattle.ty_map.proofs.Heights.{height_within, height_greatest}
use Rattle.ty_map.proofs.laws.greatest_heights.Goals as goal

pub returns : goal.returns
returns c = record {
  within = height_within;
  greatest = height_greatest;
}
