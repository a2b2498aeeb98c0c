use Rattle.std.proofs.Common.{◌≡◌, drop}
use Rattle.serde_json.specs.View.{items_view}
use Rattle.ty_rules.specs.Tests.{items}
use Rattle.ty_rules.specs.Checks.{first_in}
use Rattle.ty_rules.proofs.check.check_each.Given as goal

abbrev pub invariant-loop-item : goal.invariant-loop-item
invariant-loop-item g l =
    let c = g.C.Check.breaks l.check in
    first_in c (items (items_view l.item-items)) ≡ first_in c (items (items_view (drop l.item-index l.item-items)))
