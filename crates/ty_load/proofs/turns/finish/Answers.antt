use Rattle.std.proofs.lemmas.Result.{err_from_is_err_and}
use Rattle.std.proofs.Common.{[], ◌∷◌}
use Rattle.ty_core.specs.Run.{end}
use Rattle.ty_load.specs.steps.Plans.{always}
use Rattle.ty_load.proofs.Plans.{happens, no_faults}
use Rattle.ty_load.proofs.turns.finish.Goals as goal

pub returns-in_err-finish : goal.returns-in_err-finish
returns-in_err-finish c =
    let p = err_from_is_err_and c.from_residual.result c.from_residual.ensures.1 in
    rw (p.1, p.2) (no_faults c.args.world.now (always (end ∷ [])) c.in_err-finish.field-0.0 c.in_err-finish.ensures.fault)

pub returns : goal.returns
returns c = happens c.args.world.now _ end c.in_ok-finish.ensures.runs c.in_ok-finish.ensures.goes
