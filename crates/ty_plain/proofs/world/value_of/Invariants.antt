use Rattle.std.proofs.Common.{◌≡◌, take}
use Rattle.std.specs.Option.{option_copied}
use Rattle.ty_base.specs.Feed.{get}
use Rattle.ty_base.specs.Feed as feed
use Rattle.ty_plain.proofs.world.value_of.Given as goal

abbrev pub invariant-loop-item : goal.invariant-loop-item
invariant-loop-item l = option_copied l.found ≡ get (feed.folded (take l.item-index l.items)).pairs l.key
