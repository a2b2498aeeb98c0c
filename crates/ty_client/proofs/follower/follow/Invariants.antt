use Rattle.std.proofs.Common.{◌≡◌, ◌-◌, ◌≤◌, length}
use Rattle.ty_base.specs.declared.limits.TheConstants.{INPUT_BYTES, PIECE_BYTES}
use Rattle.ty_client.proofs.Followed.{Following}
use Rattle.ty_client.proofs.follower.follow.Given as goal

abbrev pub invariant-loop-taken : goal.invariant-loop-taken
invariant-loop-taken g l = record {
  piece : length l.piece.items ≡ PIECE_BYTES;
  following : Following l.brief l.unread l.stage (g.S.Source.seen l.fn.source).left (g.S.Source.seen l.source).left (g.K.Sink.seen l.fn.sink).held (g.K.Sink.seen l.sink).held l.taken;
  reads : (g.S.Source.seen l.fn.source).faults ≤ (g.S.Source.seen l.source).faults;
  writes : (g.K.Sink.seen l.fn.sink).faults ≤ (g.K.Sink.seen l.sink).faults;
}

abbrev pub decreases-loop-taken : goal.decreases-loop-taken
decreases-loop-taken g l = INPUT_BYTES - l.taken
