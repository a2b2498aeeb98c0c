use Rattle.std.proofs.Common.{◌+◌, ◌*◌, ap, sym, ◌∙◌}
use Rattle.std.specs.Option.{option_copied}
use Rattle.ty_map.specs.Shape.{pairs, height}
use Rattle.ty_map.proofs.Alone.{none_fresh}
use Rattle.ty_map.proofs.Changes.{absent}
use Rattle.ty_map.proofs.tree.remove_shared.Goals as goal

pub returns-in-None-clause-pairs : goal.returns-in-None-clause-pairs
returns-in-None-clause-pairs c = absent (pairs c.args.tree) c.args.key.now c.len-all.ensures.ascending (sym c.get.ensures ∙ ap option_copied c.in-None.is)

pub returns-in-None-clause-fresh : goal.returns-in-None-clause-fresh
returns-in-None-clause-fresh c = none_fresh c.args.tree (3 * (height c.args.tree + 1))
