use Rattle.std.proofs.Common.{◌++◌, ◌∷◌, []}
use Rattle.ty_core.proofs.Opening.{opened}
use Rattle.ty_core.proofs.slot.open.Goals as goal

pub returns-clause-link : goal.returns-clause-link
returns-clause-link c = λ es h.
    opened c.lost.new.self c.hello.new.self c.new.result es c.args.now (h.0 ++ h.1 ∷ []) c.in_ok-host.host c.in_ok-host.ensures (c.lost.ensures.stands h.0 h.1 h.2 h.3) c.lost.ensures.fault c.lost.ensures.up c.in_ok-hello.ensures.ok c.new.ensures
