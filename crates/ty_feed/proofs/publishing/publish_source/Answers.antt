use Rattle.std.proofs.Common.{◌<◌, ◌≤◌, rules, arith, take, length}
use Rattle.std.proofs.lemmas.Grind.{common_steps}
use Rattle.ty_base.specs.Devices.{Input}
use Rattle.ty_base.specs.declared.limits.TheConstants.{INPUT_BYTES}
use Rattle.ty_base.proofs.Known.{Consumes-kept}
use Rattle.ty_feed.proofs.Reading.{begins, short_first, still_short, piece_took, goes_on, read_fails, stops, ends}
use Rattle.ty_feed.proofs.publishing.publish_source.Goals as goal

pub returns-in_default-clause-published : goal.returns-in_default-clause-published
returns-in_default-clause-published g c = short_first c.args.publisher.now (g.S.Source.seen c.args.source.now) c.requires.nothing_yet c.requires.no_items

pub loop-taken-init : goal.loop-taken-init
loop-taken-init g c = record {
  piece = grind (arith, common_steps);
  so_far = begins c.new-intake.result c.args.publisher.now (g.S.Source.seen c.args.source.now) c.requires.nothing_yet c.requires.no_items c.new-intake.ensures;
}

pub unreachable-requires : goal.unreachable-requires
unreachable-requires g c =
    let short : c.loop-taken.taken < INPUT_BYTES = still_short c.loop-taken.intake c.loop-taken.publisher _ _ c.loop-taken.taken c.loop-taken.invariant.so_far in
    absurd (omega (arith, short))

pub returns-in_default-take-clause-published : goal.returns-in_default-take-clause-published
returns-in_default-take-clause-published g c =
    let now : Input = g.S.Source.seen c.loop-taken.source in
    let new : Input = g.S.Source.seen c.take.new.self in
    let r = c.loop-taken.invariant.so_far in
    read_fails c.loop-taken.intake c.loop-taken.publisher _ now c.loop-taken.taken r new (Consumes-kept _ _ _ _ r.consumed c.in_default-take.ensures.bytes) c.in_default-take.ensures.cause.failed

pub publish_piece-requires : goal.publish_piece-requires
publish_piece-requires g c = let r = c.loop-taken.invariant.so_far in (r.feed, r.read_to)

pub finish-requires : goal.finish-requires
finish-requires g c = let r = c.loop-taken.invariant.so_far in (r.feed, r.read_to)

pub returns-then-count-eq0-clause-published : goal.returns-then-count-eq0-clause-published
returns-then-count-eq0-clause-published g c =
    let now : Input = g.S.Source.seen c.loop-taken.source in
    let new : Input = g.S.Source.seen c.take.new.self in
    let r = c.loop-taken.invariant.so_far in
    let some : 0 < length c.take.new.buf = search rules in
    ends c.loop-taken.intake c.loop-taken.publisher _ now c.loop-taken.taken r new c.finish.result c.finish.new.publisher c.in-Ok-take.count c.take.new.buf c.if-count-eq0.true c.in-Ok-take.ensures.bytes.0
    (c.in-Ok-take.ensures.bytes.1 c.if-count-eq0.true some) (c.finish.ensures r.feed r.read_to)

pub returns-in-Err-clause-published : goal.returns-in-Err-clause-published
returns-in-Err-clause-published g c =
    let now : Input = g.S.Source.seen c.loop-taken.source in
    let new : Input = g.S.Source.seen c.take.new.self in
    let r = c.loop-taken.invariant.so_far in
    let fits : c.in-Ok-take.count ≤ length c.take.new.buf = search rules in
    let room : c.in-Ok-take.count ≤ c.loop-taken.piece.len = search rules in
    let took = piece_took now.left new.left c.in-Ok-take.count c.loop-taken.piece.len c.take.new.buf c.loop-taken.piece.items c.deref.result.now fits room c.deref.ensures.value c.in-Ok-take.ensures.bytes.0 in
    stops c.loop-taken.intake c.loop-taken.publisher _ now c.loop-taken.taken r new c.in-Err.end c.publish_piece.new.intake c.publish_piece.new.publisher c.in-Ok-take.count (take c.in-Ok-take.count c.deref.result.now) took
    (c.in-Err.ensures r.feed r.read_to)

pub loop-taken-preserved : goal.loop-taken-preserved
loop-taken-preserved g c =
    let now : Input = g.S.Source.seen c.loop-taken.source in
    let new : Input = g.S.Source.seen c.take.new.self in
    let r = c.loop-taken.invariant.so_far in
    let fits : c.in-Ok-take.count ≤ length c.take.new.buf = search rules in
    let room : c.in-Ok-take.count ≤ c.loop-taken.piece.len = search rules in
    let took = piece_took now.left new.left c.in-Ok-take.count c.loop-taken.piece.len c.take.new.buf c.loop-taken.piece.items c.deref.result.now fits room c.deref.ensures.value c.in-Ok-take.ensures.bytes.0 in
    record {
      piece = search rules;
      so_far = goes_on c.loop-taken.intake c.loop-taken.publisher _ now c.loop-taken.taken r c.publish_piece.new.intake c.publish_piece.new.publisher new c.in-Ok-take.count (take c.in-Ok-take.count c.deref.result.now) took
          c.in-Ok-take.ensures.cause.later (c.in-Ok-publish_piece.ensures r.feed r.read_to);
    }
