use Rattle.std.proofs.Common.{◌≡◌, ℕ, length}
use Rattle.std.specs.Prelude.{Ok}
use Rattle.ty_server.specs.Exchanges.{link_seen}
use Rattle.ty_server.specs.steps.Parts.{SomePart}
use Rattle.ty_server.proofs.giving.give_queued.Given as goal

abbrev pub invariant-loop-session : goal.invariant-loop-session
invariant-loop-session g l = record {
  part : (now : ℕ) → SomePart {A = Unit {0}} now (link_seen (g.L.Link.sight l.fn.link) (g.L.Link.count l.fn.link)) (link_seen (g.L.Link.sight l.link) (g.L.Link.count l.link)) l.fn.session l.session (Ok tt);
  same : l.session ≡ record l.fn.session { out = l.session.out };
}

abbrev pub decreases-loop-session : goal.decreases-loop-session
decreases-loop-session g l = length l.session.out
