use Rattle.std.proofs.Common.{map, ap, refl}
use Rattle.ty_dedupe.specs.Pending.{pending, last_status, shown}
use Rattle.ty_dedupe.proofs.buffer.Buffer.new.Goals as goal

pub returns : goal.returns
unfolding pending last_status
returns c = (ap (map shown) c.new.ensures.empty, refl)
