use Rattle.std.proofs.lemmas.Result.{err_from_is_err_and}
use Rattle.std.proofs.Common.{◌≡◌, ℕ, ap, ◌+◌, ◌-◌, [], ◌∷◌, map, replicate, arith}
use Rattle.ty_script.specs.declared.event.Event.TheVariants.{Step}
use Rattle.ty_core.specs.Run.{on}
use Rattle.ty_load.specs.steps.Plans.{Plan, always}
use Rattle.ty_load.proofs.Plans.{begins, goes_on, breaks, is_done}
use Rattle.ty_load.proofs.Scripts.{same_front, same_none}
use Rattle.ty_load.proofs.catch.step_on.Goals as goal

abbrev from : ℕ → ℕ → ℕ → Plan
from n i c = always (map on (replicate (n - i) (Step c)))

abbrev all : ℕ → ℕ → Plan
all n c = always (map on (replicate n (Step c)))

pub loop-init : goal.loop-init
loop-init c =
    let n = c.args.n in
    let k = c.args.c in
    let e : n - 0 ≡ n = omega arith in
    begins c.args.world.now (from n 0 k) (all n k) (λ hs st. ap (λ m. map on (replicate m (Step k))) e)

pub returns-in_err-happen : goal.returns-in_err-happen
returns-in_err-happen c =
    let n = c.args.n in
    let i = c.loop.counter in
    let k = c.args.c in
    let p = err_from_is_err_and c.from_residual.result c.from_residual.ensures.1 in
    rw (p.1, p.2) (breaks c.args.world.now c.loop.world (always (on (Step k) ∷ [])) (from n (i + 1) k) (from n i k) (all n k) c.in_err-happen.field-0.0 (λ r. same_front (Step k) n i c.loop-test.true) c.loop.invariant c.in_err-happen.ensures)

pub loop-preserved : goal.loop-preserved
loop-preserved c =
    let n = c.args.n in
    let i = c.loop.counter in
    let k = c.args.c in
    goes_on c.args.world.now c.loop.world c.happen.new.world (always (on (Step k) ∷ [])) (from n (i + 1) k) (from n i k) (all n k) (λ r. same_front (Step k) n i c.loop-test.true) c.loop.invariant c.in_ok-happen.ensures

pub returns : goal.returns
returns c =
    is_done c.args.world.now c.loop.world (from c.args.n c.loop.counter c.args.c) (all c.args.n c.args.c) (λ r. same_none (Step c.args.c) c.args.n c.loop.counter (omega arith)) c.loop.invariant
