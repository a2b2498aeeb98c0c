use Rattle.std.proofs.Common.{◌≡◌, ◌≤◌}
use Rattle.ty_session.specs.declared.phase.Phase.TheVariants.{Waiting}
use Rattle.ty_server.specs.Exchanges.{link_seen}
use Rattle.ty_server.specs.steps.Service.{IsWaiting, IsSilent}
use Rattle.ty_server.proofs.serving.welcome.Given as goal

abbrev pub invariant-loop : goal.invariant-loop
invariant-loop g l = record {
  can : (goal.iterator-loop g).can_next l.iterator';
  ends : (goal.iterator-loop g).is_finite l.iterator';
  waits : IsWaiting (g.C.Clock.gives l.clock) (link_seen (g.L.Link.sight l.fn.link) (g.L.Link.count l.fn.link)) (link_seen (g.L.Link.sight l.link) (g.L.Link.count l.link)) l.session;
  phase : l.session.stance.phase ≡ Waiting;
  silent : IsSilent (link_seen (g.L.Link.sight l.fn.link) (g.L.Link.count l.fn.link)) (link_seen (g.L.Link.sight l.link) (g.L.Link.count l.link));
  later : g.L.Link.count l.fn.link ≤ g.L.Link.count l.link;
}
