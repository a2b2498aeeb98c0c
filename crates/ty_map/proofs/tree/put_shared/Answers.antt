use Rattle.std.proofs.Common.{◌+◌, ◌*◌, ap, sym, ◌∙◌}
use Rattle.std.specs.Prelude.{Some}
use Rattle.ty_base.specs.Feed.{change}
use Rattle.ty_map.specs.Changes.{kind_of}
use Rattle.ty_map.specs.Shape.{pairs, height}
use Rattle.ty_map.proofs.Alone.{none_fresh}
use Rattle.ty_map.proofs.Changes.{kept}
use Rattle.ty_map.proofs.tree.put_shared.Goals as goal

pub returns-in-None-clause-pairs : goal.returns-in-None-clause-pairs
returns-in-None-clause-pairs c =
    let k = c.args.key.now in
    let v = c.args.value.now in
    kept (pairs c.args.tree) k v c.len-all.ensures.ascending (ap (λ o. kind_of (change k o (Some v))) (sym c.get.ensures) ∙ sym c.change_by.ensures ∙ c.in-None.is)

pub returns-in-None-clause-fresh : goal.returns-in-None-clause-fresh
returns-in-None-clause-fresh c = none_fresh c.args.tree (3 * (height c.args.tree + 1))
