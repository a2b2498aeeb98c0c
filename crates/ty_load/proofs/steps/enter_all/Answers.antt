use Rattle.std.proofs.lemmas.Result.{err_from_is_err_and}
use Rattle.std.proofs.Common.{ℕ, ◌+◌, ◌-◌, map, arith}
use Rattle.std.specs.Prelude.{flat_map}
use Rattle.std.specs.List.{range_with_len}
use Rattle.ty_core.specs.Run.{on}
use Rattle.ty_load.specs.Load.{clients, enters}
use Rattle.ty_load.specs.steps.Plans.{Plan, always}
use Rattle.ty_load.proofs.Plans.{begins_all, goes_on, breaks, is_done}
use Rattle.ty_load.proofs.Scripts.{enters_front, enters_none}
use Rattle.ty_load.proofs.steps.enter_all.Goals as goal

abbrev from : ℕ → Plan
from c = always (map on (flat_map enters (range_with_len c (9 - c))))

pub loop-c-init : goal.loop-c-init
loop-c-init c = begins_all c.args.world.now (always (map on (flat_map enters clients)))

pub returns-in_err-enter : goal.returns-in_err-enter
returns-in_err-enter c =
    let n = c.loop-c.c in
    let p = err_from_is_err_and c.from_residual.result c.from_residual.ensures.1 in
    rw (p.1, p.2) (breaks c.args.world.now c.loop-c.world (always (map on (enters n))) (from (n + 1)) (from n) (always (map on (flat_map enters clients))) c.in_err-enter.field-0.0 (λ r. enters_front n 9 c.loop-c-test.true) c.loop-c.invariant c.in_err-enter.ensures)

pub loop-c-preserved : goal.loop-c-preserved
loop-c-preserved c =
    let n = c.loop-c.c in
    goes_on c.args.world.now c.loop-c.world c.enter.new.world (always (map on (enters n))) (from (n + 1)) (from n) (always (map on (flat_map enters clients))) (λ r. enters_front n 9 c.loop-c-test.true) c.loop-c.invariant c.in_ok-enter.ensures

pub returns : goal.returns
returns c =
    is_done c.args.world.now c.loop-c.world (from c.loop-c.c) (always (map on (flat_map enters clients))) (λ r. enters_none c.loop-c.c 9 (omega arith)) c.loop-c.invariant
