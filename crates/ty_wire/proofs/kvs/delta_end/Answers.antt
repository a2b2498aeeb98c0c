use Rattle.std.proofs.Common.{arith}
use Rattle.ty_wire.proofs.Parts.{delta_text-len}
use Rattle.ty_wire.proofs.kvs.delta_end.Goals as goal

pub returns-clause-enough : goal.returns-clause-enough
returns-clause-enough c n within few = omega (arith, within, few, c.requires, delta_text-len c.args.delta.now, c.weight_of-weight.ensures.value)
