use Rattle.std.proofs.lemmas.Result.{err_from_is_err_and}
use Rattle.std.proofs.Common.{ℕ, ◌+◌, ◌-◌, map, arith}
use Rattle.ty_core.specs.Run.{on}
use Rattle.ty_load.specs.Load.{load_step, load_steps}
use Rattle.ty_load.specs.steps.Plans.{Plan, always}
use Rattle.ty_load.proofs.Plans.{begins_all, goes_on, breaks, is_done}
use Rattle.ty_load.proofs.Scripts.{steps_next, steps_none}
use Rattle.ty_load.proofs.steps.feed.Goals as goal

abbrev from : ℕ → ℕ → Plan
from k x = always (map on (load_steps (20000 - k) k x))

pub loop-k-init : goal.loop-k-init
loop-k-init c = begins_all c.args.world.now (from 0 c.args.number)

pub returns-in_err-step : goal.returns-in_err-step
returns-in_err-step c =
    let k = c.loop-k.k in
    let x = c.next_word-x.result in
    let p = err_from_is_err_and c.from_residual.result c.from_residual.ensures.1 in
    rw (p.1, p.2) (breaks c.args.world.now c.loop-k.world (always (map on (load_step (k + 1) x))) (from (k + 1) x) (from k c.loop-k.x) (from 0 c.args.number) c.in_err-step.field-0.0 (λ r. steps_next 20000 k c.loop-k.x x c.loop-k-test.true c.next_word-x.ensures) c.loop-k.invariant c.in_err-step.ensures)

pub loop-k-preserved : goal.loop-k-preserved
loop-k-preserved c =
    let k = c.loop-k.k in
    let x = c.next_word-x.result in
    goes_on c.args.world.now c.loop-k.world c.step.new.world (always (map on (load_step (k + 1) x))) (from (k + 1) x) (from k c.loop-k.x) (from 0 c.args.number) (λ r. steps_next 20000 k c.loop-k.x x c.loop-k-test.true c.next_word-x.ensures) c.loop-k.invariant c.in_ok-step.ensures

pub returns : goal.returns
returns c =
    is_done c.args.world.now c.loop-k.world (from c.loop-k.k c.loop-k.x) (from 0 c.args.number) (λ r. steps_none 20000 c.loop-k.k c.loop-k.x (omega arith)) c.loop-k.invariant
