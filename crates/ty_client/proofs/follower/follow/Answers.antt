use Rattle.std.proofs.Common.{◌≡◌, ◌<◌, ◌≤◌, rules, arith, refl, sym, ◌∙◌, ap, take, length, subst, List, ℕ}
use Rattle.std.proofs.lemmas.Grind.{common_steps}
use Rattle.std.specs.Io.KnownBytes.{Consumes}
use Rattle.ty_base.specs.declared.limits.TheConstants.{INPUT_BYTES}
use Rattle.ty_base.proofs.Known.{Consumes-same, Appends-same}
use Rattle.ty_client.proofs.Followed.{following_begins, following_more, following_short, ended_by, stopped_by, nothing_followed, take_same, length_take, consumed_end}
use Rattle.ty_client.specs.declared.follower.FollowFault.{FollowFault}
use Rattle.ty_base.specs.Devices.{Seen, seen}
use Rattle.ty_client.specs.Followed.{StoppedBy}
use Rattle.ty_client.proofs.follower.follow.Goals as goal

pub loop-taken-init : goal.loop-taken-init
loop-taken-init g c = record {
  piece = grind (arith, common_steps);
  following = following_begins c.args.brief c.new-unread.result c.new-stage.result _ _ (Consumes-same _) c.new-unread.ensures.stands c.new-unread.ensures.fault c.new-stage.ensures;
  reads = omega arith;
  writes = omega arith;
}

pub unreachable-requires : goal.unreachable-requires
unreachable-requires g c =
    let short : c.loop-taken.taken < INPUT_BYTES = following_short _ _ _ _ _ _ _ _ c.loop-taken.invariant.following in
    absurd (omega (arith, short))

pub returns-in_default-clause-fault : goal.returns-in_default-clause-fault
returns-in_default-clause-fault g c = nothing_followed c.args.brief c.new-unread.result _ _ (Consumes-same _) (Appends-same _) c.new-unread.ensures.stands c.new-unread.ensures.fault

pub returns-then-count-eq0-clause-ok : goal.returns-then-count-eq0-clause-ok
returns-then-count-eq0-clause-ok g c =
    let old : Seen = seen (g.S.Source.seen c.args.source.now) (g.K.Sink.seen c.args.sink.now) in
    let new : Seen = seen (g.S.Source.seen c.take.new.self) (g.K.Sink.seen c.loop-taken.sink) in
    let f = c.loop-taken.invariant.following in
    let some : 0 < length c.take.new.buf = search rules in
    (ended_by c.ended.result c.args.brief c.loop-taken.unread c.loop-taken.stage old new (g.S.Source.seen c.loop-taken.source).left (g.K.Sink.seen c.loop-taken.sink).held c.loop-taken.taken f
    (consumed_end old.source.left (g.S.Source.seen c.loop-taken.source).left new.source.left f.bytes c.take.new.buf c.in-Ok-take.count f.consumed c.in-Ok-take.ensures.bytes.0 c.if-count-eq0.true)
    refl (c.in-Ok-take.ensures.bytes.1 c.if-count-eq0.true some) c.ended.ensures).0

pub returns-then-count-eq0-clause-fault : goal.returns-then-count-eq0-clause-fault
returns-then-count-eq0-clause-fault g c =
    let old : Seen = seen (g.S.Source.seen c.args.source.now) (g.K.Sink.seen c.args.sink.now) in
    let new : Seen = seen (g.S.Source.seen c.take.new.self) (g.K.Sink.seen c.loop-taken.sink) in
    let f = c.loop-taken.invariant.following in
    let some : 0 < length c.take.new.buf = search rules in
    (ended_by c.ended.result c.args.brief c.loop-taken.unread c.loop-taken.stage old new (g.S.Source.seen c.loop-taken.source).left (g.K.Sink.seen c.loop-taken.sink).held c.loop-taken.taken f
    (consumed_end old.source.left (g.S.Source.seen c.loop-taken.source).left new.source.left f.bytes c.take.new.buf c.in-Ok-take.count f.consumed c.in-Ok-take.ensures.bytes.0 c.if-count-eq0.true)
    refl (c.in-Ok-take.ensures.bytes.1 c.if-count-eq0.true some) c.ended.ensures).1

pub returns-in-Err-clause-fault : goal.returns-in-Err-clause-fault
returns-in-Err-clause-fault g c =
    let old : Seen = seen (g.S.Source.seen c.args.source.now) (g.K.Sink.seen c.args.sink.now) in
    let new : Seen = seen (g.S.Source.seen c.take.new.self) (g.K.Sink.seen c.hear_piece.new.sink) in
    let f = c.loop-taken.invariant.following in
    let fits : c.in-Ok-take.count ≤ length c.take.new.buf = search rules in
    let room : c.in-Ok-take.count ≤ c.loop-taken.piece.len = search rules in
    let same : take c.in-Ok-take.count c.deref.result.now ≡ take c.in-Ok-take.count c.take.new.buf =
    ap (λ (x : List ℕ). take c.in-Ok-take.count x) c.deref.ensures.value ∙ take_same c.in-Ok-take.count c.loop-taken.piece.len c.take.new.buf c.loop-taken.piece.items fits room in
    let consumes : Consumes (g.S.Source.seen c.loop-taken.source).left (g.S.Source.seen c.take.new.self).left (take c.in-Ok-take.count c.deref.result.now) =
    subst (λ (x : List ℕ). Consumes (g.S.Source.seen c.loop-taken.source).left (g.S.Source.seen c.take.new.self).left x) (sym same) c.in-Ok-take.ensures.bytes.0 in
    subst (λ (e : FollowFault). StoppedBy c.args.brief old new e) (sym c.follow_fault.ensures)
    (stopped_by c.in-Err.stop c.args.brief c.loop-taken.unread c.hear_piece.new.unread c.loop-taken.stage c.hear_piece.new.stage old new (g.S.Source.seen c.loop-taken.source).left (g.K.Sink.seen c.loop-taken.sink) c.loop-taken.taken
    (take c.in-Ok-take.count c.deref.result.now) f consumes c.loop-taken.invariant.writes (c.in-Err.ensures.heard f.bytes f.ms f.hears f.good))

pub loop-taken-preserved : goal.loop-taken-preserved
loop-taken-preserved g c =
    let f = c.loop-taken.invariant.following in
    let fits : c.in-Ok-take.count ≤ length c.take.new.buf = search rules in
    let room : c.in-Ok-take.count ≤ c.loop-taken.piece.len = search rules in
    let same : take c.in-Ok-take.count c.deref.result.now ≡ take c.in-Ok-take.count c.take.new.buf =
    ap (λ (x : List ℕ). take c.in-Ok-take.count x) c.deref.ensures.value ∙ take_same c.in-Ok-take.count c.loop-taken.piece.len c.take.new.buf c.loop-taken.piece.items fits room in
    let consumes : Consumes (g.S.Source.seen c.loop-taken.source).left (g.S.Source.seen c.take.new.self).left (take c.in-Ok-take.count c.deref.result.now) =
    subst (λ (x : List ℕ). Consumes (g.S.Source.seen c.loop-taken.source).left (g.S.Source.seen c.take.new.self).left x) (sym same) c.in-Ok-take.ensures.bytes.0 in
    let counted : c.in-Ok-take.count ≡ length (take c.in-Ok-take.count c.deref.result.now) = length_take c.in-Ok-take.count c.take.new.buf fits ∙ ap (λ (x : List ℕ). length x) (sym same) in
    let heard = c.in-Ok-hear_piece.ensures.heard f.bytes f.ms f.hears f.good in
    record {
      piece = search rules;
      following = following_more c.args.brief c.loop-taken.unread c.hear_piece.new.unread c.loop-taken.stage c.hear_piece.new.stage (g.S.Source.seen c.args.source.now).left (g.S.Source.seen c.loop-taken.source).left (g.S.Source.seen c.take.new.self).left
          (g.K.Sink.seen c.args.sink.now).held (g.K.Sink.seen c.loop-taken.sink).held (g.K.Sink.seen c.hear_piece.new.sink).held c.loop-taken.taken c.in-Ok-take.count (take c.in-Ok-take.count c.deref.result.now) f consumes counted heard;
      reads = omega (arith, c.loop-taken.invariant.reads, c.in-Ok-take.ensures.cause.later);
      writes = omega (arith, c.loop-taken.invariant.writes, c.in-Ok-hear_piece.ensures.later);
    }
