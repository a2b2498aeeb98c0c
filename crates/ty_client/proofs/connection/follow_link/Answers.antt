use Rattle.std.proofs.Common.{rules, ◌≡◌, ◌≤◌, ◌∙◌, length, subst, arith}
use Rattle.std.proofs.lemmas.Grind.{common_steps}
use Rattle.std.specs.Prelude.{Ok}
use Rattle.ty_base.specs.declared.limits.TheConstants.{PIECE_BYTES}
use Rattle.ty_client.specs.declared.connection.Taken.{Taken}
use Rattle.ty_client.specs.Linked.{Scene, scene}
use Rattle.ty_client.specs.steps.Links.{opened_with, TakesOn}
use Rattle.ty_client.proofs.Linked.{short_here, room_kept}
use Rattle.ty_client.proofs.connection.follow_link.Goals as goal

pub returns-in-Err-clause-fault : goal.returns-in-Err-clause-fault
returns-in-Err-clause-fault g c = (c.in-Err.ensures c.args.brief (g.L.Link.sight c.args.link.now) (g.L.Link.count c.args.link.now) (g.K.Sink.seen c.args.sink.now)).stopped

pub returns-in_default-clause-fault : goal.returns-in_default-clause-fault
returns-in_default-clause-fault g c =
    let a : Scene = scene c.args.rebuild.now (g.L.Link.sight c.args.link.now) (g.L.Link.count c.args.link.now) (g.K.Sink.seen c.args.sink.now) in
    let b : Scene = scene c.begin.new.rebuild (g.L.Link.sight c.args.link.now) (g.L.Link.count c.args.link.now) (g.K.Sink.seen c.args.sink.now) in
    (short_here (Unit {0}) (opened_with c.args.host.now c.args.brief a) b (λ _. Unit {0}) (c.in-Ok.ensures c.args.brief (g.L.Link.sight c.args.link.now) (g.L.Link.count c.args.link.now) (g.K.Sink.seen c.args.sink.now)).ok).stopped

pub loop-init : goal.loop-init
loop-init g c = record {
  can = tt;
  ends = tt;
  piece = grind (arith, common_steps);
  goes = (c.in-Ok.ensures c.args.brief (g.L.Link.sight c.args.link.now) (g.L.Link.count c.args.link.now) (g.K.Sink.seen c.args.sink.now)).ok;
}

pub loop-preserved : goal.loop-preserved
loop-preserved g c =
    let a : Scene = scene c.args.rebuild.now (g.L.Link.sight c.args.link.now) (g.L.Link.count c.args.link.now) (g.K.Sink.seen c.args.sink.now) in
    let b : Scene = scene c.loop.rebuild (g.L.Link.sight c.loop.link) (g.L.Link.count c.loop.link) (g.K.Sink.seen c.loop.sink) in
    let d : Scene = scene c.exchange.new.rebuild (g.L.Link.sight c.exchange.new.link) (g.L.Link.count c.exchange.new.link) (g.K.Sink.seen c.exchange.new.sink) in
    let came = subst (λ (t : Taken). TakesOn c.args.brief b d (Ok t)) c.in-Ok-More.field-0-is c.in-Ok-More.ensures.came in
    let new : length c.exchange.new.piece ≡ PIECE_BYTES = c.in-Ok-More.ensures.same ∙ search rules in
    let room : PIECE_BYTES ≤ c.loop.piece.len = search rules in
    record {
      can = tt;
      ends = tt;
      piece = room_kept PIECE_BYTES c.loop.piece.len c.exchange.new.piece c.loop.piece.items c.loop.invariant.piece new room;
      goes = (came c.args.host.now a c.loop.invariant.goes).ok;
    }

pub returns-in-Ok-Last-clause-ok : goal.returns-in-Ok-Last-clause-ok
returns-in-Ok-Last-clause-ok g c =
    let a : Scene = scene c.args.rebuild.now (g.L.Link.sight c.args.link.now) (g.L.Link.count c.args.link.now) (g.K.Sink.seen c.args.sink.now) in
    let b : Scene = scene c.loop.rebuild (g.L.Link.sight c.loop.link) (g.L.Link.count c.loop.link) (g.K.Sink.seen c.loop.sink) in
    let d : Scene = scene c.exchange.new.rebuild (g.L.Link.sight c.exchange.new.link) (g.L.Link.count c.exchange.new.link) (g.K.Sink.seen c.exchange.new.sink) in
    let came = subst (λ (t : Taken). TakesOn c.args.brief b d (Ok t)) c.in-Ok-Last.field-0-is c.in-Ok-Last.ensures.came in
    (came c.args.host.now a c.loop.invariant.goes).ok

pub returns-in-Ok-Last-clause-faults : goal.returns-in-Ok-Last-clause-faults
returns-in-Ok-Last-clause-faults g c =
    let a : Scene = scene c.args.rebuild.now (g.L.Link.sight c.args.link.now) (g.L.Link.count c.args.link.now) (g.K.Sink.seen c.args.sink.now) in
    (c.in-Ok-Last.ensures.came c.args.host.now a c.loop.invariant.goes).link_later

pub returns-in-Ok-Last-clause-writes : goal.returns-in-Ok-Last-clause-writes
returns-in-Ok-Last-clause-writes g c =
    let a : Scene = scene c.args.rebuild.now (g.L.Link.sight c.args.link.now) (g.L.Link.count c.args.link.now) (g.K.Sink.seen c.args.sink.now) in
    (c.in-Ok-Last.ensures.came c.args.host.now a c.loop.invariant.goes).sink_later

pub returns-in-Err-exchange-clause-fault : goal.returns-in-Err-exchange-clause-fault
returns-in-Err-exchange-clause-fault g c =
    let a : Scene = scene c.args.rebuild.now (g.L.Link.sight c.args.link.now) (g.L.Link.count c.args.link.now) (g.K.Sink.seen c.args.sink.now) in
    (c.in-Err-exchange.ensures.came c.args.host.now a c.loop.invariant.goes).stopped

pub returns-in-Err-exchange-clause-faults : goal.returns-in-Err-exchange-clause-faults
returns-in-Err-exchange-clause-faults g c =
    let a : Scene = scene c.args.rebuild.now (g.L.Link.sight c.args.link.now) (g.L.Link.count c.args.link.now) (g.K.Sink.seen c.args.sink.now) in
    (c.in-Err-exchange.ensures.came c.args.host.now a c.loop.invariant.goes).link_later

pub returns-in-Err-exchange-clause-writes : goal.returns-in-Err-exchange-clause-writes
returns-in-Err-exchange-clause-writes g c =
    let a : Scene = scene c.args.rebuild.now (g.L.Link.sight c.args.link.now) (g.L.Link.count c.args.link.now) (g.K.Sink.seen c.args.sink.now) in
    (c.in-Err-exchange.ensures.came c.args.host.now a c.loop.invariant.goes).sink_later
