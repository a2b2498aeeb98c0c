use Rattle.std.proofs.Common.{◌<◌, ◌≤◌, rules, arith, refl, sym, ◌∙◌, ap, take, length, subst}
use Rattle.std.specs.Prelude.{Result, Err, IfErr}
use Rattle.std.proofs.lemmas.Grind.{common_steps}
use Rattle.std.proofs.lemmas.Result.{err_from_is_err_and}
use Rattle.ty_base.specs.Devices.{Seen, seen}
use Rattle.ty_base.specs.declared.limits.TheConstants.{INPUT_BYTES}
use Rattle.ty_base.proofs.Known.{Consumes-same, Consumes-kept, Appends-same}
use Rattle.ty_client.proofs.Followed.{consumed_end}
use Rattle.ty_core.specs.Simulated.{SimStopped}
use Rattle.ty_core.specs.declared.simulation.SimFault.{SimFault}
use Rattle.ty_core.proofs.ScriptFeeds.{rose_after}
use Rattle.ty_core.proofs.ScriptSources.{running_begins, running_more, running_short, running_nearer, piece_taken, short_first, running_fails, running_stops, running_ends, running_ended}
use Rattle.ty_core.proofs.simulation.simulate.Goals as goal

pub returns-in_default-clause-fault : goal.returns-in_default-clause-fault
returns-in_default-clause-fault g c =
    let old : Seen = seen (g.S.Source.seen c.args.source.now) (g.K.Sink.seen c.args.sink.now) in
    short_first c.args.world.now old old (Consumes-same _) (Appends-same _)

pub loop-script-init : goal.loop-script-init
loop-script-init g c =
    let old : Seen = seen (g.S.Source.seen c.args.source.now) (g.K.Sink.seen c.args.sink.now) in
    record {
      piece = grind (arith, common_steps);
      running = running_begins c.args.world.now c.new-script.result old (Consumes-same _) c.requires c.new-script.ensures.rest c.new-script.ensures.counts.0 c.new-script.ensures.counts.1 c.new-script.ensures.owed;
      reads = omega arith;
      writes = omega arith;
    }

pub unreachable-requires : goal.unreachable-requires
unreachable-requires g c =
    let short : c.loop-script.script.seen < INPUT_BYTES = running_short _ _ _ _ c.loop-script.invariant.running in
    absurd (omega (arith, short))

pub returns-in_default-take-clause-fault : goal.returns-in_default-take-clause-fault
returns-in_default-take-clause-fault g c =
    let old : Seen = seen (g.S.Source.seen c.args.source.now) (g.K.Sink.seen c.args.sink.now) in
    let now : Seen = seen (g.S.Source.seen c.loop-script.source) (g.K.Sink.seen c.loop-script.sink) in
    let new : Seen = seen (g.S.Source.seen c.take.new.self) (g.K.Sink.seen c.loop-script.sink) in
    let r = c.loop-script.invariant.running in
    running_fails c.loop-script.world c.loop-script.script old now new r (Consumes-kept _ _ _ _ r.consumed c.in_default-take.ensures.bytes) refl
    (rose_after _ _ _ c.loop-script.invariant.reads c.in_default-take.ensures.cause.failed)

pub end_script-requires : goal.end_script-requires
end_script-requires g c =
    let r = c.loop-script.invariant.running in
    (r.bytes, (g.K.Sink.seen c.args.sink.now).held, r.open_to)

pub returns-in_err-end_script-clause-fault : goal.returns-in_err-end_script-clause-fault
returns-in_err-end_script-clause-fault g c =
    let old : Seen = seen (g.S.Source.seen c.args.source.now) (g.K.Sink.seen c.args.sink.now) in
    let now : Seen = seen (g.S.Source.seen c.loop-script.source) (g.K.Sink.seen c.loop-script.sink) in
    let new : Seen = seen (g.S.Source.seen c.take.new.self) (g.K.Sink.seen c.end_script.new.sink) in
    let r = c.loop-script.invariant.running in
    let some : 0 < length c.take.new.buf = search rules in
    let p = err_from_is_err_and c.from_residual.result c.from_residual.ensures.1 in
    let P : Result (Unit {0}) SimFault → Type 0 = λ x. IfErr x (λ e. SimStopped c.end_script.new.world old new e) in
    subst P (sym (p.1 ∙ ap Err p.2))
    (running_ended c.in_err-end_script.field-0.0 c.loop-script.world c.end_script.new.world c.loop-script.script old now new r
    (consumed_end old.source.left now.source.left new.source.left r.bytes c.take.new.buf c.in-Ok-take.count r.consumed c.in-Ok-take.ensures.bytes.0 c.if-count-eq0.true)
    (c.in-Ok-take.ensures.bytes.1 c.if-count-eq0.true some) c.loop-script.invariant.writes (c.in_err-end_script.ensures.told r.bytes old.sink.held r.open_to))

pub returns-then-count-eq0-clause-ok : goal.returns-then-count-eq0-clause-ok
returns-then-count-eq0-clause-ok g c =
    let old : Seen = seen (g.S.Source.seen c.args.source.now) (g.K.Sink.seen c.args.sink.now) in
    let now : Seen = seen (g.S.Source.seen c.loop-script.source) (g.K.Sink.seen c.loop-script.sink) in
    let new : Seen = seen (g.S.Source.seen c.take.new.self) (g.K.Sink.seen c.end_script.new.sink) in
    let r = c.loop-script.invariant.running in
    let some : 0 < length c.take.new.buf = search rules in
    running_ends c.loop-script.world c.end_script.new.world c.loop-script.script old now new r
    (consumed_end old.source.left now.source.left new.source.left r.bytes c.take.new.buf c.in-Ok-take.count r.consumed c.in-Ok-take.ensures.bytes.0 c.if-count-eq0.true)
    (c.in-Ok-take.ensures.bytes.1 c.if-count-eq0.true some) (c.in_ok-end_script.ensures.told r.bytes old.sink.held r.open_to)

pub run_piece-requires : goal.run_piece-requires
run_piece-requires g c =
    let r = c.loop-script.invariant.running in
    (r.bytes, (g.K.Sink.seen c.args.sink.now).held, r.open_to)

pub returns-in_err-run_piece-clause-fault : goal.returns-in_err-run_piece-clause-fault
returns-in_err-run_piece-clause-fault g c =
    let old : Seen = seen (g.S.Source.seen c.args.source.now) (g.K.Sink.seen c.args.sink.now) in
    let now : Seen = seen (g.S.Source.seen c.loop-script.source) (g.K.Sink.seen c.loop-script.sink) in
    let new : Seen = seen (g.S.Source.seen c.take.new.self) (g.K.Sink.seen c.run_piece.new.sink) in
    let r = c.loop-script.invariant.running in
    let fits : c.in-Ok-take.count ≤ length c.take.new.buf = search rules in
    let room : c.in-Ok-take.count ≤ c.loop-script.piece.len = search rules in
    let taken = piece_taken now.source.left new.source.left c.in-Ok-take.count c.loop-script.piece.len c.take.new.buf c.loop-script.piece.items c.deref.result.now fits room c.deref.ensures.value c.in-Ok-take.ensures.bytes.0 in
    let p = err_from_is_err_and c.from_residual-in_err-run_piece.result c.from_residual-in_err-run_piece.ensures.1 in
    let P : Result (Unit {0}) SimFault → Type 0 = λ x. IfErr x (λ e. SimStopped c.run_piece.new.world old new e) in
    subst P (sym (p.1 ∙ ap Err p.2))
    (running_stops c.in_err-run_piece.field-0.0 c.loop-script.world c.run_piece.new.world c.loop-script.script old now new (take c.in-Ok-take.count c.deref.result.now) r taken.0
    c.loop-script.invariant.writes (c.in_err-run_piece.ensures.told r.bytes old.sink.held r.open_to))

pub loop-script-smaller : goal.loop-script-smaller
loop-script-smaller g c =
    let old : Seen = seen (g.S.Source.seen c.args.source.now) (g.K.Sink.seen c.args.sink.now) in
    let now : Seen = seen (g.S.Source.seen c.loop-script.source) (g.K.Sink.seen c.loop-script.sink) in
    let r = c.loop-script.invariant.running in
    let fits : c.in-Ok-take.count ≤ length c.take.new.buf = search rules in
    let room : c.in-Ok-take.count ≤ c.loop-script.piece.len = search rules in
    let taken = piece_taken now.source.left (g.S.Source.seen c.take.new.self).left c.in-Ok-take.count c.loop-script.piece.len c.take.new.buf c.loop-script.piece.items c.deref.result.now fits room c.deref.ensures.value c.in-Ok-take.ensures.bytes.0 in
    running_nearer c.loop-script.world c.run_piece.new.world c.loop-script.script c.run_piece.new.script old now (g.K.Sink.seen c.run_piece.new.sink).held (take c.in-Ok-take.count c.deref.result.now) c.in-Ok-take.count r
    taken.1 (search rules) (c.in_ok-run_piece.ensures.goes_on r.bytes old.sink.held r.open_to)

pub loop-script-preserved : goal.loop-script-preserved
loop-script-preserved g c =
    let old : Seen = seen (g.S.Source.seen c.args.source.now) (g.K.Sink.seen c.args.sink.now) in
    let now : Seen = seen (g.S.Source.seen c.loop-script.source) (g.K.Sink.seen c.loop-script.sink) in
    let new : Seen = seen (g.S.Source.seen c.take.new.self) (g.K.Sink.seen c.run_piece.new.sink) in
    let r = c.loop-script.invariant.running in
    let fits : c.in-Ok-take.count ≤ length c.take.new.buf = search rules in
    let room : c.in-Ok-take.count ≤ c.loop-script.piece.len = search rules in
    let taken = piece_taken now.source.left new.source.left c.in-Ok-take.count c.loop-script.piece.len c.take.new.buf c.loop-script.piece.items c.deref.result.now fits room c.deref.ensures.value c.in-Ok-take.ensures.bytes.0 in
    record {
      piece = search rules;
      running = running_more c.loop-script.world c.run_piece.new.world c.loop-script.script c.run_piece.new.script old now new (take c.in-Ok-take.count c.deref.result.now) r taken.0
          (c.in_ok-run_piece.ensures.goes_on r.bytes old.sink.held r.open_to) c.in_ok-run_piece.ensures.settled;
      reads = omega (arith, c.loop-script.invariant.reads, c.in-Ok-take.ensures.cause.later);
      writes = omega (arith, c.loop-script.invariant.writes, c.in_ok-run_piece.ensures.later);
    }
