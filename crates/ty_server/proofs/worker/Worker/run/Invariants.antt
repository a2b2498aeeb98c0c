use Rattle.std.proofs.Common.{◌≡◌, ◌+◌, ◌≤◌}
use Rattle.ty_account.specs.Known.{KnowsMore}
use Rattle.ty_base.specs.Told.{Told}
use Rattle.ty_server.specs.Workers.{WorksAt}
use Rattle.ty_server.specs.declared.worker.TheConstants.{MOST_LINKS}
use Rattle.ty_server.proofs.worker.Worker.run.Given as goal

abbrev pub invariant-loop : goal.invariant-loop
invariant-loop g l = record {
  can : (goal.iterator-loop g).can_next l.iterator';
  ends : (goal.iterator-loop g).is_finite l.iterator';
  account : l.self.front.account ≡ g.N.Named.account;
  number : l.self.number ≡ l.fn.self.number;
  knows_more : KnowsMore l.fn.self.front l.self.front;
  back : g.D.Door.gave l.door + g.D.Door.got l.fn.door ≡ g.D.Door.gave l.fn.door + g.D.Door.got l.door;
  count : g.D.Door.got l.fn.door + l.count ≡ g.D.Door.got l.door;
  few : l.self.short ≤ l.count;
  most : l.count ≤ MOST_LINKS;
  later : g.D.Door.count l.fn.door ≤ g.D.Door.count l.door;
  served : Told (WorksAt g.D.Link.Link.sight g.D.Link.Link.count (g.C.Clock.gives l.clock) l.self.front l.self.short) (g.D.Door.sight l.fn.door) (g.D.Door.sight l.door);
}
