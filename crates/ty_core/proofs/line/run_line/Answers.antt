use Rattle.std.proofs.Common.{List, ℕ, ◌++◌, ◌∷◌, [], ◌∙◌, sym, ap, subst}
use Rattle.std.specs.Prelude.{Result, Err}
use Rattle.std.proofs.lemmas.Result.{err_from_is_err_and}
use Rattle.ty_core.specs.steps.Scripts.{happenings_in, report_in, IsLineRun}
use Rattle.ty_core.specs.declared.simulation.SimFault.{SimFault}
use Rattle.ty_core.specs.declared.stop.Stop.{Stop}
use Rattle.ty_core.specs.declared.stop.Stop.TheVariants.{Fault}
use Rattle.ty_core.proofs.ScriptSteps.{event_fits, none_said, over_said, run_said, lines_front}
use Rattle.ty_core.proofs.line.run_line.Goals as goal

pub event-requires : goal.event-requires
event-requires c =
    let r = c.requires.run in
    event_fits c.args.world.now r.0 c.args.n c.args.line.now c.in_ok-event.event r.1 r.2 c.requires.few c.in_ok-event.ensures.fits

pub returns-in_err-event : goal.returns-in_err-event
returns-in_err-event c = λ ls start held run is owes.
    let p = err_from_is_err_and c.from_residual.result c.from_residual.ensures.1 in
    let P : Result (Unit {0}) Stop → Type 0 = λ r. IsLineRun r c.args.world.now start held c.args.owed.now.items (ls ++ c.args.line.now ∷ []) in
    subst P (sym (p.1 ∙ ap Err p.2)) (none_said c.in_err-event.field-0.0 c.args.world.now c.args.n c.args.line.now c.args.owed.now.items ls start held c.in_err-event.ensures.none run is owes)

pub returns-in-Ok : goal.returns-in-Ok
returns-in-Ok c = λ ls start held run is owes.
    run_said c.push.result c.args.world.now c.event.new.self c.args.line.now c.args.owed.now.items c.push.new.out.items c.bytes.result.now ls c.in_ok-event.event start held
    c.in_ok-event.ensures.says c.in_ok-event.ensures.fits run owes
    (c.in-Ok.ensures.runs (happenings_in ls) run.stands)
    (c.in-Ok.ensures.goes (happenings_in ls) run.stands)
    (c.in-Ok.ensures.tells (happenings_in ls) run.stands ∙ ap (λ (l : List ℕ). report_in ls ++ l) (sym c.bytes.ensures.value))
    c.push.ensures.ok c.push.ensures.err

pub returns-in-Err-Feed : goal.returns-in-Err-Feed
returns-in-Err-Feed c = λ ls start held run is owes.
    let faulty = rw c.in-Err-Feed.field-0-is at c.in-Err-Feed.ensures.faulty in
    let fault = rw c.in-Err-Feed.field-0-is at c.in-Err-Feed.ensures.fault in
    let P : SimFault → Type 0 = λ f. IsLineRun (Err (Fault f)) c.event.new.self start held c.args.owed.now.items (ls ++ c.args.line.now ∷ []) in
    subst P (sym c.told_at_line.ensures)
    (over_said c.args.world.now c.event.new.self c.args.n c.args.line.now c.args.owed.now.items ls c.in_ok-event.event c.in-Err-Feed.fault start held c.in_ok-event.ensures.says run is owes
    (faulty (happenings_in ls) run.stands) (fault (happenings_in ls) run.stands))

pub returns : goal.returns
returns c = λ ls start held run is owes. lines_front start held c.args.owed.now.items ls (c.args.line.now ∷ []) owes
