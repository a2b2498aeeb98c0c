use Rattle.std.proofs.Common.{◌≡◌, ◌<◌, arith, refl, length, ap, sym, true, false, true≢false}
use Rattle.ty_base.specs.declared.limits.TheConstants.{INPUT_BYTES}
use Rattle.ty_wire.specs.Held.{FramesHeld}
use Rattle.ty_wire.proofs.Stream.{fed, over, not-over, ended-not}
use Rattle.ty_wire.proofs.frames.Frames.read_to_limit.Goals as goal

pub returns-then-is_empty : goal.returns-then-is_empty
returns-then-is_empty c =
    let seen : c.self.inside.seen ≡ c.args.self.now.seen = ap (λ (h : FramesHeld). h.seen) c.self.view_is in
    let small : c.self.inside.seen < INPUT_BYTES = c.self.invariant.0 in
    fed c.args.self.now c.read_on.new.self c.read_on.new.self c.split_at.result.0.now c.split_at.result.1.now c.args.piece.now c.in_ok-msgs.msgs false
    (search (c.split_at.ensures))
    (omega arith)
    (λ v. absurd (true≢false (sym v)))
    (λ v. not-over c.is_empty.result (length c.split_at.result.1.now) c.is_empty.ensures c.if-is_empty.true)
    c.in_ok-msgs.ensures (λ v. refl) refl refl (ended-not c.read_on.new.self.fault) refl

pub returns : goal.returns
returns c =
    let seen : c.self.inside.seen ≡ c.args.self.now.seen = ap (λ (h : FramesHeld). h.seen) c.self.view_is in
    let small : c.self.inside.seen < INPUT_BYTES = c.self.invariant.0 in
    fed c.args.self.now c.read_on.new.self c.end.new.self c.split_at.result.0.now c.split_at.result.1.now c.args.piece.now c.in_ok-msgs.msgs true
    (search (c.split_at.ensures))
    (omega arith)
    (λ v. over c.is_empty.result (length c.split_at.result.1.now) (length c.split_at.result.0.now) c.args.self.now.seen (length c.args.piece.now) c.is_empty.ensures (omega arith) (omega arith) (omega arith) c.if-is_empty.false)
    (λ v. absurd (true≢false v))
    c.in_ok-msgs.ensures (λ v. absurd (true≢false v))
    (ap (λ (h : FramesHeld). h.count) c.end.ensures) (ap (λ (h : FramesHeld). h.seen) c.end.ensures) (ap (λ (h : FramesHeld). h.fault) c.end.ensures) (ap (λ (h : FramesHeld). h.spent) c.end.ensures)
