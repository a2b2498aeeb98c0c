use Rattle.ty_map.specs.Shape.{pairs}
use Rattle.ty_crumb.specs.Crumbs.{snapshot_of}
use Rattle.ty_session.proofs.Snapshots.{IsWalked}
use Rattle.ty_session.proofs.opening.fill.Given as goal

abbrev pub invariant-loop-key : goal.invariant-loop-key
invariant-loop-key l = IsWalked (snapshot_of (pairs l.crumb.pairs)) l.filling l.key-iterator l.fn.out.items l.out.items
