use Rattle.std.proofs.Common.{◌∙◌, refl, sym, ap, subst, arith}
use Rattle.std.specs.Prelude.{Result, Err}
use Rattle.std.proofs.lemmas.Result.{err_from_is_err_and}
use Rattle.ty_base.specs.Devices.{Output}
use Rattle.ty_intake.specs.Lines.{Cut, cut_lines}
use Rattle.ty_core.specs.steps.Scripts.{IsScriptRunTo, followed}
use Rattle.ty_core.specs.declared.script.Script.{Script}
use Rattle.ty_core.specs.declared.stop.Stop.{Stop}
use Rattle.ty_core.proofs.ScriptCuts.{runs_more, runs_stop, runs_out, stop_since}
use Rattle.ty_core.proofs.script.run_lines.Goals as goal

pub end_line-requires-clause-at : goal.end_line-requires-clause-at
end_line-requires-clause-at g c =
    let r = c.requires.at in
    let now = c.loop-line.invariant.run r.0 r.1 r.2 in
    (now.cut, r.1, now.at)

pub returns-in_err-end_line-clause-read : goal.returns-in_err-end_line-clause-read
returns-in_err-end_line-clause-read g c = λ k start at.
    let old : Output = g.K.Sink.seen c.args.sink.now in
    let now : Output = g.K.Sink.seen c.loop-line.sink in
    let new : Output = g.K.Sink.seen c.end_line.new.sink in
    let all : Cut = followed k (cut_lines c.args.bytes.now) in
    let stop : Stop = c.in_err-end_line.field-0.0 in
    let r = c.loop-line.invariant.run k start at in
    let p = err_from_is_err_and c.from_residual.result c.from_residual.ensures.1 in
    let P : Result (Unit {0}) Stop → Type 0 = λ e. IsScriptRunTo e c.end_line.new.world c.end_line.new.script start old new all in
    subst P (sym (p.1 ∙ ap Err p.2))
    (stop_since stop c.end_line.new.world c.end_line.new.script start old now new all c.loop-line.invariant.later
    (runs_stop stop c.loop-line.world c.end_line.new.world c.loop-line.script c.end_line.new.script start now new now.held all c.loop-line.left.now c.in-Some.line.now c.in-Some.more.now r
    c.in-Some.ensures.line (c.in_err-end_line.ensures.read r.cut start r.at)))

pub loop-line-preserved : goal.loop-line-preserved
loop-line-preserved g c = record {
  run = λ k start at.
      let r = c.loop-line.invariant.run k start at in
      runs_more c.loop-line.world c.end_line.new.world c.loop-line.script c.end_line.new.script start (g.K.Sink.seen c.loop-line.sink).held (g.K.Sink.seen c.end_line.new.sink).held (followed k (cut_lines c.args.bytes.now))
      c.loop-line.left.now c.in-Some.line.now c.in-Some.more.now r c.in-Some.ensures.line (c.in_ok-end_line.ensures.read r.cut start r.at);
  few = omega (arith, c.in_ok-end_line.ensures.count, c.in-Some.ensures.shorter, c.loop-line.invariant.few);
  seen = c.in_ok-end_line.ensures.seen ∙ c.loop-line.invariant.seen;
  later = omega (arith, c.loop-line.invariant.later, c.in_ok-end_line.ensures.later);
}

pub returns-clause-read : goal.returns-clause-read
returns-clause-read g c = λ k start at.
    let script : Script = record { rest = c.keep.new.rest; lines = c.loop-line.script.lines; seen = c.loop-line.script.seen; owed = c.loop-line.script.owed } in
    runs_out c.keep.result c.loop-line.world c.loop-line.script script start (g.K.Sink.seen c.args.sink.now) (g.K.Sink.seen c.loop-line.sink) (followed k (cut_lines c.args.bytes.now)) c.loop-line.left.now
    (c.loop-line.invariant.run k start at) c.in_default.ensures.rest refl refl c.keep.ensures
