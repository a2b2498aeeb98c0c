use Rattle.std.proofs.Common.{◌∙◌, sym, arith}
use Rattle.ty_core.proofs.Getting.{ends_are}
use Rattle.ty_core.proofs.slot.told_ends.Goals as goal

pub returns : goal.returns
returns c = ends_are c.args.c _ c.args.ats.now c.loop-at.at-index c.loop-at.told.items (omega arith) (sym c.is_empty.ensures ∙ c.if-is_empty.false) c.loop-at.invariant
