use Rattle.std.proofs.Common.{sym, ap, ◌∙◌, ◌-◌}
use Rattle.ty_core.specs.Clients.{newest}
use Rattle.ty_core.specs.Run.{trail, link}
use Rattle.ty_load.proofs.Scripts.{left_none, left_some}
use Rattle.ty_load.proofs.catch.steps_behind.Goals as goal

pub returns-in-None : goal.returns-in-None
returns-in-None c = λ hs s st e. left_none (newest (trail s)) (link s c.args.c) (sym c.in-None.is ∙ c.offered.ensures hs s st e)

pub returns-in-Some : goal.returns-in-Some
returns-in-Some c = λ hs s st e.
    left_some (newest (trail s)) c.in-Some.n c.saturating_sub.result (link s c.args.c) (sym c.in-Some.is ∙ c.offered.ensures hs s st e)
    (c.saturating_sub.ensures ∙ ap (λ m. m - c.in-Some.n) (c.crumb.ensures hs s st e).number)
