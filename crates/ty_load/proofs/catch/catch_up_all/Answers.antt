use Rattle.std.proofs.lemmas.Result.{err_from_is_err_and}
use Rattle.std.proofs.Common.{ℕ, ◌+◌, ◌-◌, arith}
use Rattle.std.specs.List.{range_with_len}
use Rattle.ty_load.specs.Load.{clients, caught_up}
use Rattle.ty_load.specs.steps.Plans.{Plan, catching}
use Rattle.ty_load.proofs.Plans.{begins_all, goes_on, breaks, is_done}
use Rattle.ty_load.proofs.Scripts.{ends_front, ends_none}
use Rattle.ty_load.proofs.catch.catch_up_all.Goals as goal

abbrev from : ℕ → Plan
from c = catching (range_with_len c (9 - c))

pub loop-c-init : goal.loop-c-init
loop-c-init c = begins_all c.args.world.now (catching clients)

pub returns-in_err-catch_up : goal.returns-in_err-catch_up
returns-in_err-catch_up c =
    let n = c.loop-c.c in
    let p = err_from_is_err_and c.from_residual.result c.from_residual.ensures.1 in
    rw (p.1, p.2) (breaks c.args.world.now c.loop-c.world (λ r. caught_up r n) (from (n + 1)) (from n) (catching clients) c.in_err-catch_up.field-0.0 (ends_front n 9 c.loop-c-test.true) c.loop-c.invariant c.in_err-catch_up.ensures)

pub loop-c-preserved : goal.loop-c-preserved
loop-c-preserved c =
    let n = c.loop-c.c in
    goes_on c.args.world.now c.loop-c.world c.catch_up.new.world (λ r. caught_up r n) (from (n + 1)) (from n) (catching clients) (ends_front n 9 c.loop-c-test.true) c.loop-c.invariant c.in_ok-catch_up.ensures

pub returns : goal.returns
returns c =
    is_done c.args.world.now c.loop-c.world (from c.loop-c.c) (catching clients) (ends_none c.loop-c.c 9 (omega arith)) c.loop-c.invariant
