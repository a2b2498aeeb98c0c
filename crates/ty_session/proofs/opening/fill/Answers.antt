use Rattle.ty_map.specs.Shape.{pairs}
use Rattle.ty_crumb.specs.Crumbs.{snapshot_of}
use Rattle.ty_session.proofs.Snapshots.{walked_on}
use Rattle.ty_session.proofs.opening.fill.Goals as goal

pub loop-key-preserved : goal.loop-key-preserved
loop-key-preserved c =
    walked_on (snapshot_of (pairs c.args.crumb.now.pairs)) c.loop-key.filling c.push.new.self c.in-Some.key.now c.in-Some.value.now
    c.loop-key.key-iterator c.next.new.self c.args.out.now.items c.loop-key.out.items c.push.new.out.items
    c.in-Some.ensures.steps c.in_ok-push.ensures.ok c.in_ok-push.ensures.kept c.loop-key.invariant
