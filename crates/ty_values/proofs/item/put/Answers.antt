use Rattle.std.proofs.Common.{refl, string_bytes}
use Rattle.std.proofs.lemmas.Str.{IsUtf8-string_bytes}
use Rattle.ty_base.specs.declared.limits.TheConstants.{KEY_BYTES, VALUE_BYTES}
use Rattle.ty_values.proofs.Limits.{both, copy_up_to}
use Rattle.ty_values.proofs.item.put.Goals as goal

pub returns-clause-limits : goal.returns-clause-limits
returns-clause-limits c =
    let value = string_bytes c.args.value in
    both _ _ (copy_up_to KEY_BYTES c.in_ok-of.field-0 c.as_str.result.now c.args.key.now c.in_ok-of.ensures c.as_str.ensures c.requires.short c.as_str.utf8)
    (copy_up_to VALUE_BYTES c.from_string.result value value c.from_string.ensures refl c.requires.fits (IsUtf8-string_bytes c.args.value))
