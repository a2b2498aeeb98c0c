use Rattle.std.proofs.Common.{◌≡◌, ◌+◌, List, ℕ, ◌++◌, ◌∙◌, length, sym, ap, subst, arith, eqb-true}
use Rattle.std.specs.Prelude.{Result, Err}
use Rattle.std.proofs.lemmas.Result.{err_from_is_err_and}
use Rattle.ty_base.specs.Devices.{Output}
use Rattle.ty_intake.specs.Lines.{cut_lines}
use Rattle.ty_core.specs.steps.Scripts.{IsScriptAt, IsRun, followed, still}
use Rattle.ty_core.specs.declared.stop.Stop.{Stop}
use Rattle.ty_core.proofs.ScriptFeeds.{IsFront, at_seen, front_of, lines_few, piece_stops, piece_over, piece_open, run_open, some_bytes}
use Rattle.ty_core.proofs.script.run_within_limit.Goals as goal

pub run_lines-requires-clause-few : goal.run_lines-requires-clause-few
run_lines-requires-clause-few g c =
    let o = c.requires.2 in
    omega (arith, lines_few c.args.world.now c.args.script.now c.requires.1 (g.K.Sink.seen c.args.sink.now).held c.requires.0 o, o.seen, o.few, c.split_at.ensures.front_len, c.min.ensures)

pub returns-in_err-run_lines-clause-run : goal.returns-in_err-run_lines-clause-run
returns-in_err-run_lines-clause-run g c = λ bytes start o.
    let old : Output = g.K.Sink.seen c.args.sink.now in
    let new : Output = g.K.Sink.seen c.run_lines.new.sink in
    let front : List ℕ = c.split_at.result.0.now in
    let back : List ℕ = c.split_at.result.1.now in
    let stop : Stop = c.in_err-run_lines.field-0.0 in
    let f : IsFront (bytes ++ front) back = front_of bytes front back c.args.script.now.seen (length c.args.piece.now) o.seen (omega (arith, o.seen, o.few)) (omega (arith, c.split_at.ensures.front_len, c.min.ensures)) (omega (arith, c.split_at.ensures.back_len, c.split_at.ensures.front_len)) in
    let parts : c.args.piece.now ≡ front ++ back = search (c.split_at.ensures) in
    let p = err_from_is_err_and c.from_residual.result c.from_residual.ensures.1 in
    let P : Result (Unit {0}) Stop → Type 0 = λ r. IsRun r c.run_lines.new.world c.run_lines.new.script.owed.items start old new (still (bytes ++ c.args.piece.now)) in
    subst P (sym (p.1 ∙ ap Err p.2))
    (piece_stops c.run_lines.new.world c.run_lines.new.script start old new bytes front back c.args.piece.now parts stop f
    (c.in_err-run_lines.ensures.read (cut_lines bytes) start (at_seen c.args.world.now c.args.script.now (c.args.script.now.seen + length front) start old.held (cut_lines bytes) o.at)))

pub returns-then-is_empty-clause-run : goal.returns-then-is_empty-clause-run
returns-then-is_empty-clause-run g c = λ bytes start o.
    let new : Output = g.K.Sink.seen c.run_lines.new.sink in
    let front : List ℕ = c.split_at.result.0.now in
    let back : List ℕ = c.split_at.result.1.now in
    let f : IsFront (bytes ++ front) back = front_of bytes front back c.args.script.now.seen (length c.args.piece.now) o.seen (omega (arith, o.seen, o.few)) (omega (arith, c.split_at.ensures.front_len, c.min.ensures)) (omega (arith, c.split_at.ensures.back_len, c.split_at.ensures.front_len)) in
    let parts : c.args.piece.now ≡ front ++ back = search (c.split_at.ensures) in
    let at : IsScriptAt c.run_lines.new.world c.run_lines.new.script start new.held (followed (cut_lines bytes) (cut_lines front)) =
    c.in_ok-run_lines.ensures.read (cut_lines bytes) start (at_seen c.args.world.now c.args.script.now (c.args.script.now.seen + length front) start (g.K.Sink.seen c.args.sink.now).held (cut_lines bytes) o.at) in
    run_open c.run_lines.new.world c.run_lines.new.script start (g.K.Sink.seen c.args.sink.now) new (bytes ++ c.args.piece.now) (piece_open c.run_lines.new.world c.run_lines.new.script start (g.K.Sink.seen c.args.sink.now) new bytes front back c.args.piece.now parts f (omega (arith, eqb-true (length back) 0 (sym c.is_empty.ensures ∙ c.if-is_empty.true)))
    (omega (arith, c.in_ok-run_lines.ensures.seen, o.seen)) at)

pub returns-then-is_empty-clause-goes_on : goal.returns-then-is_empty-clause-goes_on
returns-then-is_empty-clause-goes_on g c = λ bytes start o.
    let new : Output = g.K.Sink.seen c.run_lines.new.sink in
    let front : List ℕ = c.split_at.result.0.now in
    let back : List ℕ = c.split_at.result.1.now in
    let f : IsFront (bytes ++ front) back = front_of bytes front back c.args.script.now.seen (length c.args.piece.now) o.seen (omega (arith, o.seen, o.few)) (omega (arith, c.split_at.ensures.front_len, c.min.ensures)) (omega (arith, c.split_at.ensures.back_len, c.split_at.ensures.front_len)) in
    let parts : c.args.piece.now ≡ front ++ back = search (c.split_at.ensures) in
    let at : IsScriptAt c.run_lines.new.world c.run_lines.new.script start new.held (followed (cut_lines bytes) (cut_lines front)) =
    c.in_ok-run_lines.ensures.read (cut_lines bytes) start (at_seen c.args.world.now c.args.script.now (c.args.script.now.seen + length front) start (g.K.Sink.seen c.args.sink.now).held (cut_lines bytes) o.at) in
    piece_open c.run_lines.new.world c.run_lines.new.script start (g.K.Sink.seen c.args.sink.now) new bytes front back c.args.piece.now parts f (omega (arith, eqb-true (length back) 0 (sym c.is_empty.ensures ∙ c.if-is_empty.true)))
    (omega (arith, c.in_ok-run_lines.ensures.seen, o.seen)) at

pub returns-else-is_empty-clause-run : goal.returns-else-is_empty-clause-run
returns-else-is_empty-clause-run g c = λ bytes start o.
    let new : Output = g.K.Sink.seen c.run_lines.new.sink in
    let front : List ℕ = c.split_at.result.0.now in
    let back : List ℕ = c.split_at.result.1.now in
    let f : IsFront (bytes ++ front) back = front_of bytes front back c.args.script.now.seen (length c.args.piece.now) o.seen (omega (arith, o.seen, o.few)) (omega (arith, c.split_at.ensures.front_len, c.min.ensures)) (omega (arith, c.split_at.ensures.back_len, c.split_at.ensures.front_len)) in
    let parts : c.args.piece.now ≡ front ++ back = search (c.split_at.ensures) in
    let at : IsScriptAt c.run_lines.new.world c.run_lines.new.script start new.held (followed (cut_lines bytes) (cut_lines front)) =
    c.in_ok-run_lines.ensures.read (cut_lines bytes) start (at_seen c.args.world.now c.args.script.now (c.args.script.now.seen + length front) start (g.K.Sink.seen c.args.sink.now).held (cut_lines bytes) o.at) in
    piece_over c.run_lines.new.world c.run_lines.new.script start (g.K.Sink.seen c.args.sink.now) new bytes front back c.args.piece.now parts f (some_bytes (length back) (sym c.is_empty.ensures ∙ c.if-is_empty.false)) at
