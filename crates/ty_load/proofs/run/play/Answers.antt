use Rattle.std.proofs.Common.{refl}
use Rattle.std.proofs.lemmas.Result.{err_from_is_err_and}
use Rattle.ty_load.specs.Load.{clients}
use Rattle.ty_load.specs.steps.Plans.{catching, entire}
use Rattle.ty_load.proofs.Plans.{begins_all, goes_on, breaks, ends}
use Rattle.ty_load.proofs.Scripts.{entering, feeding, ending, whole_is}
use Rattle.ty_load.proofs.Parts.{ending_on, feeding_on, after_entering, after_feeding}
use Rattle.ty_load.proofs.run.play.Goals as goal

pub returns-in_err-enter_all : goal.returns-in_err-enter_all
returns-in_err-enter_all c =
    let x = c.args.number in
    let w = c.args.world.now in
    let p = err_from_is_err_and c.from_residual.result c.from_residual.ensures.1 in
    rw (p.1, p.2) (breaks w w entering (feeding_on x) (entire x) (entire x) c.in_err-enter_all.field-0.0 (whole_is x) (begins_all w (entire x)) c.in_err-enter_all.ensures)

pub returns-in_err-feed : goal.returns-in_err-feed
returns-in_err-feed c =
    let x = c.args.number in
    let w = c.args.world.now in
    let p = err_from_is_err_and c.from_residual-in_err-feed.result c.from_residual-in_err-feed.ensures.1 in
    rw (p.1, p.2) (breaks w c.enter_all.new.world (feeding x) ending_on (feeding_on x) (entire x) c.in_err-feed.field-0.0 (λ r. refl) (after_entering w c.enter_all.new.world x c.in_ok-enter_all.ensures) c.in_err-feed.ensures)

pub returns-in_err-finish : goal.returns-in_err-finish
returns-in_err-finish c =
    let x = c.args.number in
    let w = c.args.world.now in
    let p = err_from_is_err_and c.from_residual-in_err-finish.result c.from_residual-in_err-finish.ensures.1 in
    rw (p.1, p.2) (breaks w c.feed.new.world ending (catching clients) ending_on (entire x) c.in_err-finish.field-0.0 (λ r. refl) (after_feeding w c.enter_all.new.world c.feed.new.world x c.in_ok-enter_all.ensures c.in_ok-feed.ensures) c.in_err-finish.ensures)

pub returns : goal.returns
returns c =
    let x = c.args.number in
    let w = c.args.world.now in
    let o = after_feeding w c.enter_all.new.world c.feed.new.world x c.in_ok-enter_all.ensures c.in_ok-feed.ensures in
    ends c.catch_up_all.result w c.finish.new.world c.catch_up_all.new.world (catching clients) (entire x)
    (goes_on w c.feed.new.world c.finish.new.world ending (catching clients) ending_on (entire x) (λ r. refl) o c.in_ok-finish.ensures) c.catch_up_all.ensures
