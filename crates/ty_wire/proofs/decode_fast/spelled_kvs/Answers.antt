use Rattle.std.proofs.Common.{rules}
use Rattle.ty_wire.proofs.Spelled.{spelled}
use Rattle.ty_wire.proofs.decode_fast.spelled_kvs.Goals as goal

pub returns-in-Some-2 : goal.returns-in-Some-2
returns-in-Some-2 c = spelled c.args.bytes.now c.in-Some.rest.now c.in-Some-2.deltas c.in-Some.ensures (search rules) c.requires
