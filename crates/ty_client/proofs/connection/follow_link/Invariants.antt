use Rattle.std.proofs.Common.{◌≡◌, length}
use Rattle.ty_base.specs.declared.limits.TheConstants.{PIECE_BYTES}
use Rattle.ty_client.specs.Linked.{scene}
use Rattle.ty_client.specs.steps.Links.{opened_with, Goes}
use Rattle.ty_client.proofs.connection.follow_link.Given as goal

abbrev pub invariant-loop : goal.invariant-loop
invariant-loop g l = record {
  can : (goal.iterator-loop g).can_next l.iterator';
  ends : (goal.iterator-loop g).is_finite l.iterator';
  piece : length l.piece.items ≡ PIECE_BYTES;
  goes : Goes (opened_with l.host l.brief (scene l.fn.rebuild (g.L.Link.sight l.fn.link) (g.L.Link.count l.fn.link) (g.K.Sink.seen l.fn.sink))) (scene l.rebuild (g.L.Link.sight l.link) (g.L.Link.count l.link) (g.K.Sink.seen l.sink));
}
