use Rattle.ty_map.specs.Nodes.{pair_of}
use Rattle.ty_map.proofs.Alone.{kept_node}
use Rattle.ty_map.proofs.tree.set_right.Goals as goal

pub returns-clause-fresh : goal.returns-clause-fresh
returns-clause-fresh c = λ old a b p q. kept_node old c.args.node.now.left (pair_of c.args.node.now.pair.value) c.args.right c.args.node.now.height a b p q
