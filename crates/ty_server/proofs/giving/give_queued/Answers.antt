use Rattle.std.proofs.Common.{refl}
use Rattle.std.specs.Prelude.{Ok, Err}
use Rattle.ty_server.specs.Exchanges.{link_seen}
use Rattle.ty_server.proofs.Given.{some_then, same_then, still_part}
use Rattle.ty_server.proofs.giving.give_queued.Goals as goal

pub loop-session-init : goal.loop-session-init
loop-session-init g c = record {
  part = λ now. still_part now (link_seen (g.L.Link.sight c.args.link.now) (g.L.Link.count c.args.link.now)) c.args.session.now;
  same = refl;
}

pub loop-session-preserved : goal.loop-session-preserved
loop-session-preserved g c = record {
  part = λ now. some_then now _ _ _ c.args.session.now c.loop-session.session c.give_piece.new.session tt (Ok tt) (c.loop-session.invariant.part now) (c.in-Ok.ensures.part now);
  same = same_then c.args.session.now c.loop-session.session c.give_piece.new.session c.loop-session.invariant.same c.in-Ok.ensures.shorter.0;
}

pub returns-in-Err-clause-part : goal.returns-in-Err-clause-part
returns-in-Err-clause-part g c = λ now. some_then now _ _ _ c.args.session.now c.loop-session.session c.give_piece.new.session tt (Err c.in-Err.gone) (c.loop-session.invariant.part now) (c.in-Err.ensures.part now)
