use Rattle.std.proofs.Common.{◌≡◌, ◌-◌, length}
use Rattle.ty_base.specs.declared.limits.TheConstants.{INPUT_BYTES, PIECE_BYTES}
use Rattle.ty_feed.proofs.Reading.{SoFar}
use Rattle.ty_feed.proofs.publishing.publish_source.Given as goal

abbrev pub invariant-loop-taken : goal.invariant-loop-taken
invariant-loop-taken g l = record {
  piece : length l.piece.items ≡ PIECE_BYTES;
  so_far : SoFar l.intake l.publisher (g.S.Source.seen l.fn.source) (g.S.Source.seen l.source) l.taken;
}

abbrev pub decreases-loop-taken : goal.decreases-loop-taken
decreases-loop-taken g l = INPUT_BYTES - l.taken
