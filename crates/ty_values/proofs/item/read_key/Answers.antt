use Rattle.std.proofs.Common.{subst, ◌≤◌, length}
use Rattle.ty_base.specs.declared.limits.TheConstants.{KEY_BYTES}
use Rattle.ty_values.proofs.Limits.{short_when_read}
use Rattle.ty_values.proofs.item.read_key.Goals as goal

pub returns-in-Ok-clause-short : goal.returns-in-Ok-clause-short
returns-in-Ok-clause-short c = subst (λ b. length b ≤ KEY_BYTES) c.bytes.ensures.value (short_when_read c.bytes.result.now c.in-Ok.key c.in-Ok.ensures.exact)
