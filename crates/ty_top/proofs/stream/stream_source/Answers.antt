use Rattle.std.proofs.Common.{◌≡◌, ◌<◌, ◌≤◌, rules, arith, refl, sym, ◌∙◌, ap, take, length, subst, List, ℕ}
use Rattle.std.proofs.lemmas.Grind.{common_steps}
use Rattle.std.specs.Io.KnownBytes.{Consumes}
use Rattle.ty_base.specs.Devices.{Seen, seen}
use Rattle.ty_base.specs.declared.limits.TheConstants.{INPUT_BYTES}
use Rattle.ty_base.proofs.Known.{Consumes-same, Consumes-kept}
use Rattle.ty_client.proofs.Followed.{take_same, length_take, consumed_end}
use Rattle.ty_top.specs.Endings.{Streams}
use Rattle.ty_top.specs.declared.ending.StreamEnd.{StreamEnd}
use Rattle.ty_top.proofs.StreamReading.{first_crumb, opening_unwritten, opening_short, whole_front, short_first, reading_begins, reading_more, reading_short, reading_failed, reading_stops, reading_ends, rose_later}
use Rattle.ty_top.proofs.stream.stream_source.Goals as goal

pub give_opening-requires : goal.give_opening-requires
give_opening-requires g c = first_crumb c.first-crumb.result c.first-crumb.ensures.stands

pub returns-in-Err-Sink-clause-streams : goal.returns-in-Err-Sink-clause-streams
returns-in-Err-Sink-clause-streams g c =
    let old : Seen = seen (g.S.Source.seen c.args.source.now) (g.K.Sink.seen c.args.sink.now) in
    let new : Seen = seen (g.S.Source.seen c.args.source.now) (g.K.Sink.seen c.give_opening.new.sink) in
    opening_unwritten c.in-Err-Sink.field-0 c.args.from old new c.in-Err-Sink.field-0-is (Consumes-same _) c.in-Err-Sink.ensures

pub returns-in-Err-Memory-clause-streams : goal.returns-in-Err-Memory-clause-streams
returns-in-Err-Memory-clause-streams g c =
    let old : Seen = seen (g.S.Source.seen c.args.source.now) (g.K.Sink.seen c.args.sink.now) in
    let new : Seen = seen (g.S.Source.seen c.args.source.now) (g.K.Sink.seen c.give_opening.new.sink) in
    opening_short c.in-Err-Memory.field-0 c.args.from old new c.in-Err-Memory.field-0-is (Consumes-same _) c.in-Err-Memory.ensures

pub returns-in_default-clause-streams : goal.returns-in_default-clause-streams
returns-in_default-clause-streams g c =
    let old : Seen = seen (g.S.Source.seen c.args.source.now) (g.K.Sink.seen c.args.sink.now) in
    let new : Seen = seen (g.S.Source.seen c.args.source.now) (g.K.Sink.seen c.give_opening.new.sink) in
    short_first c.args.from old new (Consumes-same _) (whole_front _ _ _ c.in-Ok.ensures.0)

pub loop-taken-init : goal.loop-taken-init
loop-taken-init g c =
    let old : Seen = seen (g.S.Source.seen c.args.source.now) (g.K.Sink.seen c.args.sink.now) in
    let new : Seen = seen (g.S.Source.seen c.args.source.now) (g.K.Sink.seen c.give_opening.new.sink) in
    record {
      piece = grind (arith, common_steps);
      reading = reading_begins c.args.from c.new-intake.result c.first-crumb.result old new (Consumes-same _) c.new-intake.ensures (first_crumb c.first-crumb.result c.first-crumb.ensures.stands) c.in-Ok.ensures.0;
      reads = omega arith;
      writes = c.in-Ok.ensures.1;
    }

pub unreachable-requires : goal.unreachable-requires
unreachable-requires g c =
    let short : c.loop-taken.taken < INPUT_BYTES = reading_short _ _ _ _ _ _ c.loop-taken.invariant.reading in
    absurd (omega (arith, short))

pub returns-in_default-take-clause-streams : goal.returns-in_default-take-clause-streams
returns-in_default-take-clause-streams g c =
    let old : Seen = seen (g.S.Source.seen c.args.source.now) (g.K.Sink.seen c.args.sink.now) in
    let now : Seen = seen (g.S.Source.seen c.loop-taken.source) (g.K.Sink.seen c.loop-taken.sink) in
    let new : Seen = seen (g.S.Source.seen c.take.new.self) (g.K.Sink.seen c.loop-taken.sink) in
    let r = c.loop-taken.invariant.reading in
    reading_failed c.args.from c.loop-taken.intake c.loop-taken.crumb old now new c.loop-taken.taken r
    (Consumes-kept _ _ _ _ r.consumed c.in_default-take.ensures.bytes) refl (rose_later _ _ _ c.loop-taken.invariant.reads (c.in_default-take.ensures.cause.failed))

pub returns-then-count-eq0-clause-streams : goal.returns-then-count-eq0-clause-streams
returns-then-count-eq0-clause-streams g c =
    let old : Seen = seen (g.S.Source.seen c.args.source.now) (g.K.Sink.seen c.args.sink.now) in
    let now : Seen = seen (g.S.Source.seen c.loop-taken.source) (g.K.Sink.seen c.loop-taken.sink) in
    let new : Seen = seen (g.S.Source.seen c.take.new.self) (g.K.Sink.seen c.finish.new.sink) in
    let r = c.loop-taken.invariant.reading in
    let some : 0 < length c.take.new.buf = search rules in
    let P : StreamEnd → Type 0 = λ end. Streams c.args.from end old new in
    subst P (sym c.ended_by.ensures)
    (reading_ends c.args.from c.loop-taken.intake c.loop-taken.crumb old now new c.loop-taken.taken r c.finish.result
    (consumed_end old.source.left now.source.left new.source.left r.feed.bytes c.take.new.buf c.in-Ok-take.count r.consumed c.in-Ok-take.ensures.bytes.0 c.if-count-eq0.true)
    (c.in-Ok-take.ensures.bytes.1 c.if-count-eq0.true some) c.loop-taken.invariant.writes (c.finish.ensures.read r.feed r.read_to))

pub returns-in-Err-clause-streams : goal.returns-in-Err-clause-streams
returns-in-Err-clause-streams g c =
    let old : Seen = seen (g.S.Source.seen c.args.source.now) (g.K.Sink.seen c.args.sink.now) in
    let now : Seen = seen (g.S.Source.seen c.loop-taken.source) (g.K.Sink.seen c.loop-taken.sink) in
    let new : Seen = seen (g.S.Source.seen c.take.new.self) (g.K.Sink.seen c.read_piece.new.sink) in
    let r = c.loop-taken.invariant.reading in
    let fits : c.in-Ok-take.count ≤ length c.take.new.buf = search rules in
    let room : c.in-Ok-take.count ≤ c.loop-taken.piece.len = search rules in
    let same : take c.in-Ok-take.count c.deref.result.now ≡ take c.in-Ok-take.count c.take.new.buf =
    ap (λ (x : List ℕ). take c.in-Ok-take.count x) c.deref.ensures.value ∙ take_same c.in-Ok-take.count c.loop-taken.piece.len c.take.new.buf c.loop-taken.piece.items fits room in
    let consumes : Consumes now.source.left new.source.left (take c.in-Ok-take.count c.deref.result.now) =
    subst (λ (x : List ℕ). Consumes now.source.left new.source.left x) (sym same) c.in-Ok-take.ensures.bytes.0 in
    let P : StreamEnd → Type 0 = λ end. Streams c.args.from end old new in
    subst P (sym c.stream_end.ensures)
    (reading_stops c.args.from c.loop-taken.intake c.loop-taken.crumb old now new c.loop-taken.taken r
    c.in-Err.stop c.read_piece.new.intake c.read_piece.new.crumb (take c.in-Ok-take.count c.deref.result.now) consumes c.loop-taken.invariant.writes (c.in-Err.ensures.read r.feed r.read_to))

pub loop-taken-preserved : goal.loop-taken-preserved
loop-taken-preserved g c =
    let old : Seen = seen (g.S.Source.seen c.args.source.now) (g.K.Sink.seen c.args.sink.now) in
    let now : Seen = seen (g.S.Source.seen c.loop-taken.source) (g.K.Sink.seen c.loop-taken.sink) in
    let new : Seen = seen (g.S.Source.seen c.take.new.self) (g.K.Sink.seen c.read_piece.new.sink) in
    let r = c.loop-taken.invariant.reading in
    let fits : c.in-Ok-take.count ≤ length c.take.new.buf = search rules in
    let room : c.in-Ok-take.count ≤ c.loop-taken.piece.len = search rules in
    let same : take c.in-Ok-take.count c.deref.result.now ≡ take c.in-Ok-take.count c.take.new.buf =
    ap (λ (x : List ℕ). take c.in-Ok-take.count x) c.deref.ensures.value ∙ take_same c.in-Ok-take.count c.loop-taken.piece.len c.take.new.buf c.loop-taken.piece.items fits room in
    let consumes : Consumes now.source.left new.source.left (take c.in-Ok-take.count c.deref.result.now) =
    subst (λ (x : List ℕ). Consumes now.source.left new.source.left x) (sym same) c.in-Ok-take.ensures.bytes.0 in
    let counted : c.in-Ok-take.count ≡ length (take c.in-Ok-take.count c.deref.result.now) = length_take c.in-Ok-take.count c.take.new.buf fits ∙ ap (λ (x : List ℕ). length x) (sym same) in
    record {
      piece = search rules;
      reading = reading_more c.args.from c.loop-taken.intake c.loop-taken.crumb old now c.loop-taken.taken r c.read_piece.new.intake c.read_piece.new.crumb new
          c.in-Ok-take.count (take c.in-Ok-take.count c.deref.result.now) consumes counted (c.in-Ok-read_piece.ensures.read r.feed r.read_to);
      reads = omega (arith, c.loop-taken.invariant.reads, c.in-Ok-take.ensures.cause.later);
      writes = omega (arith, c.loop-taken.invariant.writes, c.in-Ok-read_piece.ensures.later);
    }
