use Rattle.std.proofs.Common.{ap, ◌∙◌, arith}
use Rattle.ty_session.specs.declared.stance.Stance.{Stance}
use Rattle.ty_server.specs.Exchanges.{LinkSeen, link_seen}
use Rattle.ty_server.specs.steps.Service.{IsWaiting}
use Rattle.ty_server.proofs.Service.{still_waits, is_greeted, greeting_over, silent_then}
use Rattle.ty_server.proofs.serving.welcome.Goals as goal

pub returns-in-Ready-clause-greeted : goal.returns-in-Ready-clause-greeted
returns-in-Ready-clause-greeted g c =
    let h = rw c.in-Ready.is at c.in-Ok.ensures.greets in
    let a : LinkSeen = link_seen (g.L.Link.sight c.args.link.now) (g.L.Link.count c.args.link.now) in
    let b : LinkSeen = link_seen (g.L.Link.sight c.loop.link) (g.L.Link.count c.loop.link) in
    let d : LinkSeen = link_seen (g.L.Link.sight c.greet.new.link) (g.L.Link.count c.greet.new.link) in
    is_greeted (g.C.Clock.gives c.args.clock.now) a b d c.loop.session c.greet.new.session c.loop.invariant.waits h

pub loop-preserved : goal.loop-preserved
loop-preserved g c =
    let h = rw c.in-Waiting.is at c.in-Ok.ensures.greets in
    let a : LinkSeen = link_seen (g.L.Link.sight c.args.link.now) (g.L.Link.count c.args.link.now) in
    let b : LinkSeen = link_seen (g.L.Link.sight c.loop.link) (g.L.Link.count c.loop.link) in
    let d : LinkSeen = link_seen (g.L.Link.sight c.greet.new.link) (g.L.Link.count c.greet.new.link) in
    let w : IsWaiting (g.C.Clock.gives c.args.clock.now) a d c.greet.new.session = still_waits (g.C.Clock.gives c.args.clock.now) a b d c.loop.session c.greet.new.session c.loop.invariant.waits h in
    record {
      can = tt;
      ends = tt;
      waits = w;
      phase = ap (λ (t : Stance). t.phase) w.served.stands.stance ∙ w.in_phase;
      silent = silent_then a b d h.heard c.loop.invariant.silent h.exchanged;
      later = omega (arith, c.loop.invariant.later, h.exchanged.later);
    }

pub returns-in-Over-clause-left : goal.returns-in-Over-clause-left
returns-in-Over-clause-left g c = λ known.
    let h = rw c.in-Over.is at c.in-Ok.ensures.greets in
    let a : LinkSeen = link_seen (g.L.Link.sight c.args.link.now) (g.L.Link.count c.args.link.now) in
    let b : LinkSeen = link_seen (g.L.Link.sight c.loop.link) (g.L.Link.count c.loop.link) in
    let d : LinkSeen = link_seen (g.L.Link.sight c.greet.new.link) (g.L.Link.count c.greet.new.link) in
    greeting_over (g.C.Clock.gives c.args.clock.now) known a b d c.loop.session c.greet.new.session c.in-Over.reason c.loop.invariant.waits h
