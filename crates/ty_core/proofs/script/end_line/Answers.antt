use Rattle.std.proofs.Common.{◌≡◌, List, ℕ, ◌+◌, ◌++◌, ◌∷◌, [], ◌∙◌, refl, sym, ap, subst}
use Rattle.std.specs.Prelude.{Result, Ok, Err}
use Rattle.std.proofs.lemmas.Result.{err_from_is_err_and}
use Rattle.ty_base.specs.Devices.{Output}
use Rattle.ty_core.specs.steps.Scripts.{IsScriptAt, IsLineRun, IsScriptRunTo, line_ended}
use Rattle.ty_core.specs.declared.script.Script.{Script}
use Rattle.ty_core.specs.declared.stop.Stop.{Stop}
use Rattle.ty_core.proofs.ScriptSteps.{lines_front}
use Rattle.ty_core.proofs.ScriptCuts.{line_stops, line_ends, line_gives}
use Rattle.ty_core.proofs.script.end_line.Goals as goal

pub returns-in_err-push-clause-read : goal.returns-in_err-push-clause-read
returns-in_err-push-clause-read g c = λ k start at.
    let script : Script = record { rest = c.push.new.out; lines = c.args.script.now.lines; seen = c.args.script.now.seen; owed = c.args.script.now.owed } in
    let sink : Output = g.K.Sink.seen c.args.sink.now in
    let p = err_from_is_err_and c.from_residual.result c.from_residual.ensures.1 in
    let P : Result (Unit {0}) Stop → Type 0 = λ r. IsScriptRunTo r c.args.world.now script start sink sink (line_ended k c.args.bytes.now) in
    subst P (sym (p.1 ∙ ap Err (p.2 ∙ c.in_err-push.ensures.err))) (lines_front start sink.held c.args.script.now.owed.items k.lines ((k.rest ++ c.args.bytes.now) ∷ []) at.owes)

pub returns-in_err-run_line-clause-read : goal.returns-in_err-run_line-clause-read
returns-in_err-run_line-clause-read g c = λ k start at.
    let script : Script = record { rest = c.push.new.out; lines = c.args.script.now.lines + 1; seen = c.args.script.now.seen; owed = c.run_line.new.owed } in
    let sink : Output = g.K.Sink.seen c.args.sink.now in
    let stop : Stop = c.in_err-run_line.field-0.0 in
    let p = err_from_is_err_and c.from_residual-in_err-run_line.result c.from_residual-in_err-run_line.ensures.1 in
    let line : c.deref.result.now ≡ k.rest ++ c.args.bytes.now = c.deref.ensures.value ∙ c.in_ok-push.ensures.ok ∙ ap (λ (l : List ℕ). l ++ c.args.bytes.now) at.rest in
    let Q : List ℕ → Type 0 = λ l. IsLineRun (Err stop) c.run_line.new.world start sink.held c.run_line.new.owed.items (k.lines ++ l ∷ []) in
    let run : Q (k.rest ++ c.args.bytes.now) = subst Q line (c.in_err-run_line.ensures k.lines start sink.held at.lines_run (ap (λ n. n + 1) at.count) at.owes) in
    let P : Result (Unit {0}) Stop → Type 0 = λ r. IsScriptRunTo r c.run_line.new.world script start sink sink (line_ended k c.args.bytes.now) in
    subst P (sym (p.1 ∙ ap Err p.2)) (line_stops c.run_line.new.world script start sink sink stop c.run_line.new.owed.items (line_ended k c.args.bytes.now).lines refl run)

pub returns-then-len-lt-PIECE_BYTES-clause-read : goal.returns-then-len-lt-PIECE_BYTES-clause-read
returns-then-len-lt-PIECE_BYTES-clause-read g c = λ k start at.
    let script : Script = record { rest = c.empty.new.rest; lines = c.args.script.now.lines + 1; seen = c.args.script.now.seen; owed = c.run_line.new.owed } in
    let sink : Output = g.K.Sink.seen c.args.sink.now in
    let line : c.deref.result.now ≡ k.rest ++ c.args.bytes.now = c.deref.ensures.value ∙ c.in_ok-push.ensures.ok ∙ ap (λ (l : List ℕ). l ++ c.args.bytes.now) at.rest in
    let Q : List ℕ → Type 0 = λ l. IsLineRun (Ok tt) c.run_line.new.world start sink.held c.run_line.new.owed.items (k.lines ++ l ∷ []) in
    let run : Q (k.rest ++ c.args.bytes.now) = subst Q line (c.in_ok-run_line.ensures k.lines start sink.held at.lines_run (ap (λ n. n + 1) at.count) at.owes) in
    line_ends c.run_line.new.world script start sink sink k c.args.bytes.now c.run_line.new.owed.items c.empty.ensures (ap (λ n. n + 1) at.count) refl run

pub returns-clause-read : goal.returns-clause-read
returns-clause-read g c = λ k start at.
    let before : Script = record { rest = c.empty.new.rest; lines = c.args.script.now.lines + 1; seen = c.args.script.now.seen; owed = c.run_line.new.owed } in
    let script : Script = record { rest = c.empty.new.rest; lines = c.args.script.now.lines + 1; seen = c.args.script.now.seen; owed = c.give.new.owed } in
    let sink : Output = g.K.Sink.seen c.args.sink.now in
    let line : c.deref.result.now ≡ k.rest ++ c.args.bytes.now = c.deref.ensures.value ∙ c.in_ok-push.ensures.ok ∙ ap (λ (l : List ℕ). l ++ c.args.bytes.now) at.rest in
    let Q : List ℕ → Type 0 = λ l. IsLineRun (Ok tt) c.run_line.new.world start sink.held c.run_line.new.owed.items (k.lines ++ l ∷ []) in
    let run : Q (k.rest ++ c.args.bytes.now) = subst Q line (c.in_ok-run_line.ensures k.lines start sink.held at.lines_run (ap (λ n. n + 1) at.count) at.owes) in
    let now : IsScriptAt c.run_line.new.world before start sink.held (line_ended k c.args.bytes.now) =
    line_ends c.run_line.new.world before start sink sink k c.args.bytes.now c.run_line.new.owed.items c.empty.ensures (ap (λ n. n + 1) at.count) refl run in
    line_gives c.give.result c.run_line.new.world before script start sink (g.K.Sink.seen c.give.new.sink) (line_ended k c.args.bytes.now) now refl refl c.give.ensures.none c.give.ensures.gives
