use Rattle.std.proofs.Common.{◌≡◌, map, take}
use Rattle.ty_core.specs.declared.told.Told.TheVariants.{Rebuilt}
use Rattle.ty_core.proofs.slot.told_ends.Given as goal

abbrev pub invariant-loop-at : goal.invariant-loop-at
invariant-loop-at l = l.told.items ≡ map (Rebuilt l.c) (take l.at-index l.ats)
