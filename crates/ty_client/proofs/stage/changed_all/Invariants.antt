use Rattle.std.proofs.Common.{◌≡◌, take}
use Rattle.std.specs.List.{fold}
use Rattle.ty_base.specs.Feed.{changed}
use Rattle.ty_map.specs.Shape.{pairs}
use Rattle.ty_client.proofs.stage.changed_all.Given as goal

abbrev pub invariant-loop-delta : goal.invariant-loop-delta
invariant-loop-delta l = pairs l.staged ≡ fold changed (pairs l.fn.pairs) (take l.delta-index l.deltas)
