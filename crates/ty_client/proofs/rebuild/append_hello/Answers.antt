use Rattle.std.proofs.Common.{ap, length, arith}
use Rattle.ty_client.proofs.rebuild.append_hello.Goals as goal

pub write-requires : goal.write-requires
write-requires c = c.short_messages_fit.ensures.client_hello 1 c.in_ok-copy.field-0 (omega arith) (omega (arith, ap length c.in_ok-copy.ensures))
