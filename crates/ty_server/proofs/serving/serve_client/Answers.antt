use Rattle.std.proofs.Common.{refl, subst}
use Rattle.ty_account.specs.Known.{Known, KnowsMore}
use Rattle.ty_session.specs.Held.{SessionHeld}
use Rattle.ty_chain.proofs.Shown.{knows_trans}
use Rattle.ty_server.specs.Exchanges.{LinkSeen, link_seen}
use Rattle.ty_server.specs.Served.{GivenFront}
use Rattle.ty_server.specs.steps.Service.{IsAttended}
use Rattle.ty_server.proofs.Service.{left_cause, ended_all, silent_given, joins, next, rests, turn_given, turn_cause, ended}
use Rattle.ty_server.proofs.serving.serve_client.Goals as goal

pub returns-in-Err-clause-given : goal.returns-in-Err-clause-given
returns-in-Err-clause-given g c =
    let a : LinkSeen = link_seen (g.L.Link.sight c.args.link.now) (g.L.Link.count c.args.link.now) in
    let b : LinkSeen = link_seen (g.L.Link.sight c.welcome.new.link) (g.L.Link.count c.welcome.new.link) in
    silent_given c.args.front.now.entries a b c.in-Err.ensures.silent

pub returns-in-Err-clause-cause : goal.returns-in-Err-clause-cause
returns-in-Err-clause-cause g c =
    let a : LinkSeen = link_seen (g.L.Link.sight c.args.link.now) (g.L.Link.count c.args.link.now) in
    let b : LinkSeen = link_seen (g.L.Link.sight c.welcome.new.link) (g.L.Link.count c.welcome.new.link) in
    left_cause SessionHeld (g.C.Clock.gives c.args.clock.now) c.args.front.now a b c.in-Err.gone c.reason_of.result c.reason_of.ensures c.in-Err.ensures.left

pub returns-in-Err-clause-ended : goal.returns-in-Err-clause-ended
returns-in-Err-clause-ended g c =
    let a : LinkSeen = link_seen (g.L.Link.sight c.args.link.now) (g.L.Link.count c.args.link.now) in
    let b : LinkSeen = link_seen (g.L.Link.sight c.welcome.new.link) (g.L.Link.count c.welcome.new.link) in
    ended_all (g.C.Clock.gives c.args.clock.now) c.args.front.now a b c.reason_of.result
    (silent_given c.args.front.now.entries a b c.in-Err.ensures.silent)
    (left_cause SessionHeld (g.C.Clock.gives c.args.clock.now) c.args.front.now a b c.in-Err.gone c.reason_of.result c.reason_of.ensures c.in-Err.ensures.left)

pub returns-in_err-follower-clause-given : goal.returns-in_err-follower-clause-given
returns-in_err-follower-clause-given g c =
    let a : LinkSeen = link_seen (g.L.Link.sight c.args.link.now) (g.L.Link.count c.args.link.now) in
    let b : LinkSeen = link_seen (g.L.Link.sight c.welcome.new.link) (g.L.Link.count c.welcome.new.link) in
    silent_given c.args.front.now.entries a b c.in-Ok.ensures.silent

pub returns-in_err-join-clause-given : goal.returns-in_err-join-clause-given
returns-in_err-join-clause-given g c =
    let a : LinkSeen = link_seen (g.L.Link.sight c.args.link.now) (g.L.Link.count c.args.link.now) in
    let b : LinkSeen = link_seen (g.L.Link.sight c.welcome.new.link) (g.L.Link.count c.welcome.new.link) in
    silent_given c.args.front.now.entries a b c.in-Ok.ensures.silent

pub loop-init : goal.loop-init
loop-init g c =
    let a : LinkSeen = link_seen (g.L.Link.sight c.args.link.now) (g.L.Link.count c.args.link.now) in
    let b : LinkSeen = link_seen (g.L.Link.sight c.welcome.new.link) (g.L.Link.count c.welcome.new.link) in
    let i : IsAttended (g.C.Clock.gives c.args.clock.now) a b c.in_ok-follower.follower c.join.new.self =
    joins (g.C.Clock.gives c.args.clock.now) c.now.result a b c.in_ok-follower.follower c.in-Ok.session c.join.new.self c.crumb.result.now c.now.ensures c.in-Ok.ensures.greeted c.in_ok-follower.ensures.stands c.crumb.ensures.crumb c.in_ok-join.ensures.joins in
    record {
      can = tt;
      ends = tt;
      attended = i;
      at_crumb = i.at_crumb;
      knows_more = c.in_ok-follower.ensures.more;
      same = refl;
    }

pub loop-preserved-in-Sent : goal.loop-preserved-in-Sent
loop-preserved-in-Sent g c =
    let a : LinkSeen = link_seen (g.L.Link.sight c.args.link.now) (g.L.Link.count c.args.link.now) in
    let b : LinkSeen = link_seen (g.L.Link.sight c.loop.link) (g.L.Link.count c.loop.link) in
    let d : LinkSeen = link_seen (g.L.Link.sight c.turn.new.link) (g.L.Link.count c.turn.new.link) in
    let turns = rw c.in-Sent.is at c.in-Ok-turn.ensures.turns in
    let i : IsAttended (g.C.Clock.gives c.args.clock.now) a d c.turn.new.follower c.turn.new.session =
    next (g.C.Clock.gives c.args.clock.now) a b d c.loop.follower c.turn.new.follower c.loop.session c.turn.new.session c.loop.invariant.attended turns in
    record {
      can = tt;
      ends = tt;
      attended = i;
      at_crumb = i.at_crumb;
      knows_more = knows_trans c.loop.front c.loop.follower.known c.turn.new.follower.known c.loop.invariant.knows_more turns.knows_more;
      same = c.loop.invariant.same;
    }

pub loop-preserved : goal.loop-preserved
loop-preserved g c =
    let a : LinkSeen = link_seen (g.L.Link.sight c.args.link.now) (g.L.Link.count c.args.link.now) in
    let b : LinkSeen = link_seen (g.L.Link.sight c.loop.link) (g.L.Link.count c.loop.link) in
    let d : LinkSeen = link_seen (g.L.Link.sight c.turn.new.link) (g.L.Link.count c.turn.new.link) in
    let turns = rw c.in-Idle.is at c.in-Ok-turn.ensures.turns in
    let i : IsAttended (g.C.Clock.gives c.args.clock.now) a d c.turn.new.follower c.turn.new.session =
    rests (g.C.Clock.gives c.args.clock.now) a b d c.loop.follower c.turn.new.follower c.loop.session c.turn.new.session c.loop.invariant.attended turns in
    record {
      can = tt;
      ends = tt;
      attended = i;
      at_crumb = i.at_crumb;
      knows_more = knows_trans c.loop.front c.loop.follower.known c.turn.new.follower.known c.loop.invariant.knows_more turns.knows_more;
      same = c.loop.invariant.same;
    }

pub returns-in_default-clause-knows_more : goal.returns-in_default-clause-knows_more
returns-in_default-clause-knows_more g c = subst (λ (k : Known). KnowsMore k c.meet.new.front) c.loop.invariant.same c.meet.ensures.this

pub returns-in_default-clause-given : goal.returns-in_default-clause-given
returns-in_default-clause-given g c =
    let a : LinkSeen = link_seen (g.L.Link.sight c.args.link.now) (g.L.Link.count c.args.link.now) in
    let b : LinkSeen = link_seen (g.L.Link.sight c.loop.link) (g.L.Link.count c.loop.link) in
    let d : LinkSeen = link_seen (g.L.Link.sight c.turn.new.link) (g.L.Link.count c.turn.new.link) in
    let more : KnowsMore c.turn.new.follower.known c.meet.new.front = subst (λ (k : Known). KnowsMore k c.meet.new.front) c.front.ensures.front c.meet.ensures.that in
    turn_given (g.C.Clock.gives c.args.clock.now) a b d c.loop.follower c.turn.new.follower c.loop.session c.turn.new.session c.meet.new.front c.turn.result more c.loop.invariant.attended c.turn.ensures.turns

pub returns-in-Over-clause-knows_more : goal.returns-in-Over-clause-knows_more
returns-in-Over-clause-knows_more g c = subst (λ (k : Known). KnowsMore k c.meet-in-Over.new.front) c.loop.invariant.same c.meet-in-Over.ensures.this

pub returns-in-Over-clause-given : goal.returns-in-Over-clause-given
returns-in-Over-clause-given g c =
    let a : LinkSeen = link_seen (g.L.Link.sight c.args.link.now) (g.L.Link.count c.args.link.now) in
    let b : LinkSeen = link_seen (g.L.Link.sight c.loop.link) (g.L.Link.count c.loop.link) in
    let d : LinkSeen = link_seen (g.L.Link.sight c.turn.new.link) (g.L.Link.count c.turn.new.link) in
    let more : KnowsMore c.turn.new.follower.known c.meet-in-Over.new.front = subst (λ (k : Known). KnowsMore k c.meet-in-Over.new.front) c.front-in-Over.ensures.front c.meet-in-Over.ensures.that in
    turn_given (g.C.Clock.gives c.args.clock.now) a b d c.loop.follower c.turn.new.follower c.loop.session c.turn.new.session c.meet-in-Over.new.front c.turn.result more c.loop.invariant.attended c.turn.ensures.turns

pub returns-in-Over-clause-cause : goal.returns-in-Over-clause-cause
returns-in-Over-clause-cause g c =
    let a : LinkSeen = link_seen (g.L.Link.sight c.args.link.now) (g.L.Link.count c.args.link.now) in
    let b : LinkSeen = link_seen (g.L.Link.sight c.loop.link) (g.L.Link.count c.loop.link) in
    let d : LinkSeen = link_seen (g.L.Link.sight c.turn.new.link) (g.L.Link.count c.turn.new.link) in
    let more : KnowsMore c.turn.new.follower.known c.meet-in-Over.new.front = subst (λ (k : Known). KnowsMore k c.meet-in-Over.new.front) c.front-in-Over.ensures.front c.meet-in-Over.ensures.that in
    let turns = rw c.in-Over.is at c.in-Ok-turn.ensures.turns in
    turn_cause (g.C.Clock.gives c.args.clock.now) a b d c.loop.follower c.turn.new.follower c.loop.session c.turn.new.session c.meet-in-Over.new.front c.in-Over.reason more c.loop.invariant.attended turns

pub returns-in-Over-clause-ended : goal.returns-in-Over-clause-ended
returns-in-Over-clause-ended g c =
    let a : LinkSeen = link_seen (g.L.Link.sight c.args.link.now) (g.L.Link.count c.args.link.now) in
    let b : LinkSeen = link_seen (g.L.Link.sight c.loop.link) (g.L.Link.count c.loop.link) in
    let d : LinkSeen = link_seen (g.L.Link.sight c.turn.new.link) (g.L.Link.count c.turn.new.link) in
    let more : KnowsMore c.turn.new.follower.known c.meet-in-Over.new.front = subst (λ (k : Known). KnowsMore k c.meet-in-Over.new.front) c.front-in-Over.ensures.front c.meet-in-Over.ensures.that in
    let turns = rw c.in-Over.is at c.in-Ok-turn.ensures.turns in
    ended (g.C.Clock.gives c.args.clock.now) c.meet-in-Over.new.front a d (GivenFront c.meet-in-Over.new.front.entries)
    (turn_given (g.C.Clock.gives c.args.clock.now) a b d c.loop.follower c.turn.new.follower c.loop.session c.turn.new.session c.meet-in-Over.new.front c.turn.result more c.loop.invariant.attended c.turn.ensures.turns)
    c.in-Over.reason
    (turn_cause (g.C.Clock.gives c.args.clock.now) a b d c.loop.follower c.turn.new.follower c.loop.session c.turn.new.session c.meet-in-Over.new.front c.in-Over.reason more c.loop.invariant.attended turns)
