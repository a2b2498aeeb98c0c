use Rattle.std.proofs.Common.{◌≡◌}
use Rattle.ty_server.specs.Exchanges.{link_seen}
use Rattle.ty_server.specs.Turning.{StandsAt}
use Rattle.ty_account.specs.Known.{KnowsMore}
use Rattle.ty_server.specs.steps.Service.{IsAttended}
use Rattle.ty_server.proofs.serving.serve_client.Given as goal

abbrev pub invariant-loop : goal.invariant-loop
invariant-loop g l = record {
  can : (goal.iterator-loop g).can_next l.iterator';
  ends : (goal.iterator-loop g).is_finite l.iterator';
  attended : IsAttended (g.C.Clock.gives l.clock) (link_seen (g.L.Link.sight l.fn.link) (g.L.Link.count l.fn.link)) (link_seen (g.L.Link.sight l.link) (g.L.Link.count l.link)) l.follower l.session;
  at_crumb : StandsAt l.session l.follower;
  knows_more : KnowsMore l.front l.follower.known;
  same : l.front ≡ l.fn.front;
}
