use Rattle.std.proofs.Common.{[], ◌∷◌, ◌++◌, map, refl}
use Rattle.std.proofs.lemmas.Result.{err_from_is_err_and}
use Rattle.ty_script.specs.declared.event.Event.TheVariants.{Line}
use Rattle.ty_core.specs.Run.{on}
use Rattle.ty_load.specs.Load.{load_step}
use Rattle.ty_load.specs.steps.Plans.{always}
use Rattle.ty_load.proofs.Plans.{begins_all, goes_on, breaks, ends}
use Rattle.ty_load.proofs.Scripts.{reads, renews, step_is}
use Rattle.ty_load.proofs.Parts.{after_line}
use Rattle.ty_load.proofs.steps.step.Goals as goal

pub returns-in_err-happen : goal.returns-in_err-happen
returns-in_err-happen c =
    let k = c.args.k in
    let w = c.args.world.now in
    let n = c.client_of-c.result in
    let all = always (map on (load_step k c.args.x)) in
    let e = step_is k c.args.x n c.in_ok-line.line c.in_ok-line.ensures c.client_of-c.ensures.is in
    let p = err_from_is_err_and c.from_residual-in_err-happen.result c.from_residual-in_err-happen.ensures.1 in
    rw (p.1, p.2) (breaks w w (always (on (Line c.in_ok-line.line) ∷ [])) (always (reads k n ++ renews k n)) all all c.in_err-happen.field-0.0 (λ r. e) (begins_all w all) c.in_err-happen.ensures)

pub returns-in_err-read_at : goal.returns-in_err-read_at
returns-in_err-read_at c =
    let k = c.args.k in
    let w = c.args.world.now in
    let n = c.client_of-c.result in
    let o = after_line w c.happen.new.world k c.args.x n c.in_ok-line.line c.in_ok-line.ensures c.client_of-c.ensures.is c.in_ok-happen.ensures in
    let p = err_from_is_err_and c.from_residual-in_err-read_at.result c.from_residual-in_err-read_at.ensures.1 in
    rw (p.1, p.2) (breaks w c.happen.new.world (always (reads k n)) (always (renews k n)) (always (reads k n ++ renews k n)) (always (map on (load_step k c.args.x))) c.in_err-read_at.field-0.0 (λ r. refl) o c.in_err-read_at.ensures)

pub returns : goal.returns
returns c =
    let k = c.args.k in
    let w = c.args.world.now in
    let n = c.client_of-c.result in
    let all = always (map on (load_step k c.args.x)) in
    let o = after_line w c.happen.new.world k c.args.x n c.in_ok-line.line c.in_ok-line.ensures c.client_of-c.ensures.is c.in_ok-happen.ensures in
    ends c.renew_at.result w c.read_at.new.world c.renew_at.new.world (always (renews k n)) all
    (goes_on w c.happen.new.world c.read_at.new.world (always (reads k n)) (always (renews k n)) (always (reads k n ++ renews k n)) all (λ r. refl) o c.in_ok-read_at.ensures) c.renew_at.ensures
