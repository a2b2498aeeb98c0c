use Rattle.ty_keys.proofs.Networks.{net_is}
use Rattle.ty_keys.proofs.pools.net.Goals as goal

pub returns-clause-value : goal.returns-clause-value
returns-clause-value c =
    net_is c.args.v6 c.args.written.now _ _ _ (rw c.read_u64.ensures at c.within.ensures.value) c.cut_at_dash.ensures.front c.cut_at_dash.ensures.back
