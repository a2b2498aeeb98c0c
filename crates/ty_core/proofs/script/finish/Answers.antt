use Rattle.std.proofs.Common.{◌≡◌, List, ℕ, ◌++◌, ◌∙◌, sym, ap, subst}
use Rattle.std.specs.Prelude.{Result, Err, None}
use Rattle.std.proofs.lemmas.Result.{err_from_is_err_and}
use Rattle.ty_intake.specs.Lines.{cut_lines}
use Rattle.ty_core.specs.steps.Scripts.{IsRun, all_lines, happenings_in, report_in, finished_feed}
use Rattle.ty_core.specs.declared.stop.Stop.{Stop}
use Rattle.ty_core.proofs.ScriptFeeds.{last_stops, end_run, end_short, no_feed_fault}
use Rattle.ty_core.proofs.script.finish.Goals as goal

pub returns-in_err-run_last : goal.returns-in_err-run_last
returns-in_err-run_last c = λ bytes start sink o.
    let p = err_from_is_err_and c.from_residual.result c.from_residual.ensures.1 in
    let P : Result (Unit {0}) Stop → Type 0 = λ r. IsRun r c.run_last.new.world c.run_last.new.script.owed.items start sink sink (finished_feed bytes) in
    subst P (sym (p.1 ∙ ap Err p.2))
    (last_stops bytes o.few c.in_err-run_last.field-0.0 c.run_last.new.world c.run_last.new.script.owed.items start sink o.at.short (c.in_err-run_last.ensures bytes start sink.held o))

pub unreachable-requires : goal.unreachable-requires
unreachable-requires c =
    let r = c.requires in
    let run = c.in_ok-run_last.ensures r.0 r.1 r.2 r.3 in
    let none : c.run_last.new.world.fault ≡ None = no_feed_fault c.run_last.new.world (all_lines (cut_lines r.0)) run.0 in
    let some = rw c.in-Err-Feed.field-0-is at c.in-Err-Feed.ensures.fault in
    absurd (cc (none, some))

pub returns-in-Ok : goal.returns-in-Ok
returns-in-Ok c = λ bytes start sink o.
    let run = c.in_ok-run_last.ensures bytes start sink.held o in
    let ls : List (List ℕ) = all_lines (cut_lines bytes) in
    end_run bytes o.few c.push.result c.run_last.new.world c.finish.new.self c.run_last.new.script.owed.items c.push.new.out.items c.bytes.result.now start sink o.at.short run
    (c.in-Ok.ensures.runs (happenings_in ls) run.0.stands)
    (c.in-Ok.ensures.tells (happenings_in ls) run.0.stands ∙ ap (λ (l : List ℕ). report_in ls ++ l) (sym c.bytes.ensures.value))
    c.push.ensures.ok c.push.ensures.err

pub returns-in-Err-NoMemory : goal.returns-in-Err-NoMemory
returns-in-Err-NoMemory c = λ bytes start sink o.
    end_short bytes o.few c.run_last.new.world c.finish.new.self c.run_last.new.script.owed.items c.run_last.new.script.owed.items start sink (c.in_ok-run_last.ensures bytes start sink.held o)
