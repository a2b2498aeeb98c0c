use Rattle.std.proofs.Common.{refl}
use Rattle.std.proofs.lemmas.Str.{IsUtf8-from_ascii}
use Rattle.ty_keys.proofs.Networks.{addr_ascii}
use Rattle.ty_keys.proofs.pools.ascii.Goals as goal

pub unreachable-requires : goal.unreachable-requires
unreachable-requires c =
    (rw c.in-Err-NotUtf8.field-0-is at c.in-Err-NotUtf8.ensures.fault) refl (IsUtf8-from_ascii c.args.bytes.now (addr_ascii c.args.bytes.now c.requires))
