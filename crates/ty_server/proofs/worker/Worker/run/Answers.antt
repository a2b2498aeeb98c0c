use Rattle.std.proofs.Common.{arith, ◌∙◌}
use Rattle.ty_chain.proofs.Shown.{knows_trans}
use Rattle.ty_server.proofs.Workers.{works_more, works_then, works_on}
use Rattle.ty_server.proofs.worker.Worker.run.Goals as goal

pub returns-in_err-serve_next-clause-served : goal.returns-in_err-serve_next-clause-served
returns-in_err-serve_next-clause-served g c =
    works_on g.D.Link.Link.sight g.D.Link.Link.count (g.C.Clock.gives c.args.clock.now) c.loop.self.front c.serve_next.new.front c.loop.self.short c.in_err-serve_next.ensures.knows_more
    (g.D.Door.sight c.args.door.now) (g.D.Door.sight c.loop.door) (g.D.Door.sight c.serve_next.new.door) c.loop.invariant.served c.in_err-serve_next.ensures.served

pub loop-preserved-in-Served : goal.loop-preserved-in-Served
loop-preserved-in-Served g c =
    let served = rw c.in-Served.is at c.in_ok-serve_next.ensures.served in
    let count = rw c.in-Served.is at c.in_ok-serve_next.ensures.count in
    record {
      can = tt;
      ends = tt;
      account = c.in_ok-serve_next.ensures.knows_more.account ∙ c.loop.invariant.account;
      number = c.loop.invariant.number;
      knows_more = knows_trans c.args.self.now.front c.loop.self.front c.serve_next.new.front c.loop.invariant.knows_more c.in_ok-serve_next.ensures.knows_more;
      back = omega (arith, c.loop.invariant.back, c.in_ok-serve_next.ensures.back);
      count = omega (arith, c.loop.invariant.count, count);
      few = omega (arith, c.loop.invariant.few);
      most = grind arith;
      later = omega (arith, c.loop.invariant.later, c.in_ok-serve_next.ensures.cause.later);
      served = works_on g.D.Link.Link.sight g.D.Link.Link.count (g.C.Clock.gives c.args.clock.now) c.loop.self.front c.serve_next.new.front c.loop.self.short c.in_ok-serve_next.ensures.knows_more
          (g.D.Door.sight c.args.door.now) (g.D.Door.sight c.loop.door) (g.D.Door.sight c.serve_next.new.door) c.loop.invariant.served served;
    }

pub loop-preserved-in-Short : goal.loop-preserved-in-Short
loop-preserved-in-Short g c =
    let served = rw c.in-Short.is at c.in_ok-serve_next.ensures.served in
    let count = rw c.in-Short.is at c.in_ok-serve_next.ensures.count in
    record {
      can = tt;
      ends = tt;
      account = c.in_ok-serve_next.ensures.knows_more.account ∙ c.loop.invariant.account;
      number = c.loop.invariant.number;
      knows_more = knows_trans c.args.self.now.front c.loop.self.front c.serve_next.new.front c.loop.invariant.knows_more c.in_ok-serve_next.ensures.knows_more;
      back = omega (arith, c.loop.invariant.back, c.in_ok-serve_next.ensures.back);
      count = omega (arith, c.loop.invariant.count, count);
      few = omega (arith, c.loop.invariant.few);
      most = grind arith;
      later = omega (arith, c.loop.invariant.later, c.in_ok-serve_next.ensures.cause.later);
      served = works_then g.D.Link.Link.sight g.D.Link.Link.count (g.C.Clock.gives c.args.clock.now) c.loop.self.front c.serve_next.new.front c.loop.self.short 1 c.in_ok-serve_next.ensures.knows_more
          (g.D.Door.sight c.args.door.now) (g.D.Door.sight c.loop.door) (g.D.Door.sight c.serve_next.new.door) c.loop.invariant.served served;
    }

pub returns-then-look-clause-served : goal.returns-then-look-clause-served
returns-then-look-clause-served g c =
    let served = rw c.in-Quiet.is at c.in_ok-serve_next.ensures.served in
    works_more g.D.Link.Link.sight g.D.Link.Link.count (g.C.Clock.gives c.args.clock.now) c.serve_next.new.front c.look.new.front c.loop.self.short c.look.ensures.more
    (g.D.Door.sight c.args.door.now) (g.D.Door.sight c.serve_next.new.door)
    (works_on g.D.Link.Link.sight g.D.Link.Link.count (g.C.Clock.gives c.args.clock.now) c.loop.self.front c.serve_next.new.front c.loop.self.short c.in_ok-serve_next.ensures.knows_more
    (g.D.Door.sight c.args.door.now) (g.D.Door.sight c.loop.door) (g.D.Door.sight c.serve_next.new.door) c.loop.invariant.served served)

pub loop-preserved : goal.loop-preserved
loop-preserved g c =
    let served = rw c.in-Quiet.is at c.in_ok-serve_next.ensures.served in
    let count = rw c.in-Quiet.is at c.in_ok-serve_next.ensures.count in
    let knows = knows_trans c.loop.self.front c.serve_next.new.front c.look.new.front c.in_ok-serve_next.ensures.knows_more c.look.ensures.more in
    record {
      can = tt;
      ends = tt;
      account = knows.account ∙ c.loop.invariant.account;
      number = c.loop.invariant.number;
      knows_more = knows_trans c.args.self.now.front c.loop.self.front c.look.new.front c.loop.invariant.knows_more knows;
      back = omega (arith, c.loop.invariant.back, c.in_ok-serve_next.ensures.back);
      count = omega (arith, c.loop.invariant.count, count);
      few = c.loop.invariant.few;
      most = c.loop.invariant.most;
      later = omega (arith, c.loop.invariant.later, c.in_ok-serve_next.ensures.cause.later);
      served = works_more g.D.Link.Link.sight g.D.Link.Link.count (g.C.Clock.gives c.args.clock.now) c.serve_next.new.front c.look.new.front c.loop.self.short c.look.ensures.more
          (g.D.Door.sight c.args.door.now) (g.D.Door.sight c.serve_next.new.door)
          (works_on g.D.Link.Link.sight g.D.Link.Link.count (g.C.Clock.gives c.args.clock.now) c.loop.self.front c.serve_next.new.front c.loop.self.short c.in_ok-serve_next.ensures.knows_more
          (g.D.Door.sight c.args.door.now) (g.D.Door.sight c.loop.door) (g.D.Door.sight c.serve_next.new.door) c.loop.invariant.served served);
    }

pub returns-in-End-clause-served : goal.returns-in-End-clause-served
returns-in-End-clause-served g c =
    let served = rw c.in-End.is at c.in_ok-serve_next.ensures.served in
    works_on g.D.Link.Link.sight g.D.Link.Link.count (g.C.Clock.gives c.args.clock.now) c.loop.self.front c.serve_next.new.front c.loop.self.short c.in_ok-serve_next.ensures.knows_more
    (g.D.Door.sight c.args.door.now) (g.D.Door.sight c.loop.door) (g.D.Door.sight c.serve_next.new.door) c.loop.invariant.served served
