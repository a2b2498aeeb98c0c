use Rattle.std.proofs.Common.{[], ◌∷◌, ◌++◌, refl}
use Rattle.std.proofs.lemmas.Result.{err_from_is_err_and}
use Rattle.ty_script.specs.declared.event.Event.TheVariants.{Step, Get}
use Rattle.ty_script.specs.declared.event.TheConstants.{GET_BYTES}
use Rattle.ty_core.specs.Run.{on}
use Rattle.ty_load.specs.Load.{caught_up}
use Rattle.ty_load.specs.steps.Plans.{always}
use Rattle.ty_load.proofs.Plans.{goes_on, breaks, ends}
use Rattle.ty_load.proofs.Parts.{many, last_two, owed_steps, after_steps}
use Rattle.ty_load.proofs.catch.catch_up.Goals as goal

pub returns-in_err-step_on : goal.returns-in_err-step_on
returns-in_err-step_on c =
    let k = c.args.c in
    let n = c.steps_behind-n.result in
    let w = c.args.world.now in
    let p = err_from_is_err_and c.from_residual.result c.from_residual.ensures.1 in
    rw (p.1, p.2) (breaks w w (always (many n k)) (always (last_two k)) (always (many n k ++ last_two k)) (λ r. caught_up r k) c.in_err-step_on.field-0.0 (λ r. refl) (owed_steps w k n c.steps_behind-n.ensures) c.in_err-step_on.ensures)

pub returns-in_err-happen : goal.returns-in_err-happen
returns-in_err-happen c =
    let k = c.args.c in
    let w = c.args.world.now in
    let o = after_steps w c.step_on.new.world k c.steps_behind-n.result c.steps_behind-n.ensures c.in_ok-step_on.ensures in
    let p = err_from_is_err_and c.from_residual-in_err-happen.result c.from_residual-in_err-happen.ensures.1 in
    rw (p.1, p.2) (breaks w c.step_on.new.world (always (on (Step k) ∷ [])) (always (on (Get k GET_BYTES) ∷ [])) (always (last_two k)) (λ r. caught_up r k) c.in_err-happen.field-0.0 (λ r. refl) o c.in_err-happen.ensures)

pub returns : goal.returns
returns c =
    let k = c.args.c in
    let w = c.args.world.now in
    let o = after_steps w c.step_on.new.world k c.steps_behind-n.result c.steps_behind-n.ensures c.in_ok-step_on.ensures in
    ends c.happen-2.result w c.happen.new.world _ (always (on (Get k GET_BYTES) ∷ [])) (λ r. caught_up r k)
    (goes_on w c.step_on.new.world c.happen.new.world (always (on (Step k) ∷ [])) (always (on (Get k GET_BYTES) ∷ [])) (always (last_two k)) (λ r. caught_up r k) (λ r. refl) o c.in_ok-happen.ensures) c.happen-2.ensures
