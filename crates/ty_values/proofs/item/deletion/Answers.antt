use Rattle.ty_base.specs.declared.limits.TheConstants.{KEY_BYTES}
use Rattle.ty_values.proofs.Limits.{copy_up_to}
use Rattle.ty_values.proofs.item.deletion.Goals as goal

pub returns-clause-limits : goal.returns-clause-limits
returns-clause-limits c =
    copy_up_to KEY_BYTES c.in_ok-of.field-0 c.as_str.result.now c.args.key.now c.in_ok-of.ensures c.as_str.ensures c.requires c.as_str.utf8
