use Rattle.ty_base.specs.Feed.{cut}
use Rattle.ty_base.proofs.Passing.{world_passes, deltas_pass}
use Rattle.ty_base.proofs.laws.keys_and_values_are_the_items_own.Goals as goal

pub returns : goal.returns
returns c = record {
  pairs = λ k v ended items n h. world_passes k v items (cut ended items n) h;
  deltas = deltas_pass;
}
