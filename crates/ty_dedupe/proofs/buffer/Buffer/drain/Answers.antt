use Rattle.std.proofs.Common.{map, ap}
use Rattle.ty_dedupe.specs.Pending.{pending, last_status, shown}
use Rattle.ty_dedupe.proofs.buffer.Buffer.drain.Goals as goal

pub returns-clause-emptied : goal.returns-clause-emptied
unfolding pending last_status
returns-clause-emptied c = (ap (map shown) c.in_ok-pairs.ensures.emptied, c.replace-status.ensures.after)
