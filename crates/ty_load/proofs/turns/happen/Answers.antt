use Rattle.std.proofs.lemmas.Result.{err_from_is_err_and}
use Rattle.ty_core.specs.Run.{on}
use Rattle.ty_load.proofs.Plans.{happens, faults}
use Rattle.ty_load.proofs.turns.happen.Goals as goal

pub returns-in_err-event : goal.returns-in_err-event
returns-in_err-event c =
    let p = err_from_is_err_and c.from_residual.result c.from_residual.ensures.1 in
    rw (p.1, p.2) (faults c.args.world.now (on c.args.e.now) c.in_err-event.field-0.0 c.in_err-event.ensures.fault)

pub returns : goal.returns
returns c = happens c.args.world.now _ (on c.args.e.now) c.in_ok-event.ensures.runs c.in_ok-event.ensures.goes
