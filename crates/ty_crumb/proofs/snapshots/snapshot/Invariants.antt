use Rattle.std.proofs.Common.{◌≡◌, ◌++◌}
use Rattle.ty_map.specs.Shape.{pairs}
use Rattle.ty_crumb.specs.Crumbs.{snapshot_of}
use Rattle.ty_crumb.proofs.snapshots.snapshot.Given as goal

abbrev pub invariant-loop-key : goal.invariant-loop-key
invariant-loop-key l = l.deltas ++ snapshot_of l.key-iterator ≡ snapshot_of (pairs l.crumb.pairs)
