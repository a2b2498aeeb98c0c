use Rattle.std.proofs.lemmas.Result.{err_from_is_err_and}
use Rattle.std.proofs.Common.{[], ◌∷◌, map, refl}
use Rattle.ty_script.specs.declared.event.Event.TheVariants.{Join, Hear}
use Rattle.ty_core.specs.Run.{on}
use Rattle.ty_load.specs.Load.{enters}
use Rattle.ty_load.specs.steps.Plans.{always}
use Rattle.ty_load.proofs.Plans.{begins_all, goes_on, breaks, ends}
use Rattle.ty_load.proofs.turns.enter.Goals as goal

pub returns-in_err-happen : goal.returns-in_err-happen
returns-in_err-happen c =
    let n = c.args.c in
    let w = c.args.world.now in
    let p = err_from_is_err_and c.from_residual.result c.from_residual.ensures.1 in
    rw (p.1, p.2) (breaks w w (always (on (Join n) ∷ [])) (always (on (Hear n) ∷ [])) _ (always (map on (enters n))) c.in_err-happen.field-0.0 (λ r. refl) (begins_all w (always (map on (enters n)))) c.in_err-happen.ensures)

pub returns : goal.returns
returns c =
    let n = c.args.c in
    let w = c.args.world.now in
    let all = always (map on (enters n)) in
    ends c.happen-2.result w c.happen.new.world _ (always (on (Hear n) ∷ [])) all
    (goes_on w w c.happen.new.world (always (on (Join n) ∷ [])) (always (on (Hear n) ∷ [])) all all (λ r. refl) (begins_all w all) c.in_ok-happen.ensures) c.happen-2.ensures
