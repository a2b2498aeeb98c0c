use Rattle.std.proofs.Common.{◌+◌, arith, sym, subst}
use Rattle.ty_map.specs.steps.Tree.{AtMostFresh}
use Rattle.ty_map.specs.Nodes.{pair_of}
use Rattle.ty_map.proofs.Nodes.{if_ok-map}
use Rattle.ty_map.proofs.FreshCounts.{made_node}
use Rattle.ty_map.proofs.tree.balance.Goals as goal

pub returns-else-hr-hl-clause-fresh : goal.returns-else-hr-hl-clause-fresh
returns-else-hr-hl-clause-fresh c old a b p q =
    let new = made_node old c.args.left (pair_of c.args.pair.value) c.args.right a b (a + b + 3) p q (omega arith) in
    if_ok-map (λ t h. subst (λ s. AtMostFresh old s (a + b + 3)) (sym h) new) c.join.result c.join.ensures
