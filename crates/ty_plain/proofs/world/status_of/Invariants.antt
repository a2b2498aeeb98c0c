use Rattle.std.proofs.Common.{◌≡◌, take}
use Rattle.ty_base.specs.Feed as feed
use Rattle.ty_plain.proofs.world.status_of.Given as goal

abbrev pub invariant-loop-item : goal.invariant-loop-item
invariant-loop-item l = l.status ≡ (feed.folded (take l.item-index l.items)).status
