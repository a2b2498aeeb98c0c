use Rattle.std.proofs.Common.{◌∙◌, ap, sym}
use Rattle.ty_plain.specs.steps.Scans.{value_behind}
use Rattle.ty_plain.proofs.Steps.{value_step}
use Rattle.ty_plain.proofs.world.value_of.Goals as goal

pub loop-item-preserved : goal.loop-item-preserved
loop-item-preserved c =
    c.heard-found.ensures ∙ ap (value_behind c.args.key.now c.item-item.result) c.loop-item.invariant
    ∙ sym (value_step c.args.items.now c.loop-item.item-index c.item-item.result c.args.key.now c.loop-item-test.true c.item-item.is)
