use Rattle.ty_map.proofs.Ascending.{no_key_twice}
use Rattle.ty_map.proofs.FreshSums.{adds_up}
use Rattle.ty_map.proofs.laws.fresh_nodes_add_up.Goals as goal

pub returns : goal.returns
returns c = record {
  sum = adds_up;
  differ = no_key_twice;
}
