use Rattle.std.proofs.lemmas.Result.{err_from_is_err_and}
use Rattle.std.proofs.Common.{[], ◌∷◌, map, ap}
use Rattle.ty_script.specs.declared.event.Event.TheVariants.{Step, Get}
use Rattle.ty_core.specs.Run.{on}
use Rattle.ty_load.specs.steps.Plans.{always}
use Rattle.ty_load.proofs.Plans.{begins_all, goes_on, breaks, ends, nothing}
use Rattle.ty_load.proofs.Scripts.{reads, is_every, not_every}
use Rattle.ty_load.proofs.steps.read_at.Goals as goal

pub returns-then-k-ne0 : goal.returns-then-k-ne0
returns-then-k-ne0 c =
    nothing c.args.world.now (reads c.args.k c.args.c) (ap (map on) (not_every 10 c.args.k _ c.if-k-ne0.true))

pub returns-in_err-happen : goal.returns-in_err-happen
returns-in_err-happen c =
    let n = c.args.c in
    let w = c.args.world.now in
    let all = always (reads c.args.k n) in
    let p = err_from_is_err_and c.from_residual.result c.from_residual.ensures.1 in
    rw (p.1, p.2) (breaks w w (always (on (Step n) ∷ [])) (always (on (Get n 65536) ∷ [])) all all c.in_err-happen.field-0.0 (λ r. ap (map on) (is_every 10 c.args.k _ c.if-k-ne0.false)) (begins_all w all) c.in_err-happen.ensures)

pub returns : goal.returns
returns c =
    let n = c.args.c in
    let w = c.args.world.now in
    let all = always (reads c.args.k n) in
    ends c.happen-2.result w c.happen.new.world _ (always (on (Get n 65536) ∷ [])) all
    (goes_on w w c.happen.new.world (always (on (Step n) ∷ [])) (always (on (Get n 65536) ∷ [])) all all (λ r. ap (map on) (is_every 10 c.args.k _ c.if-k-ne0.false)) (begins_all w all) c.in_ok-happen.ensures) c.happen-2.ensures
