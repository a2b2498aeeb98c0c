use Rattle.std.proofs.Common.{arith, sym, ◌∙◌, le-leb, length}
use Rattle.ty_base.specs.declared.limits.TheConstants.{BODY_BYTES}
use Rattle.ty_wire.specs.Wire.{body}
use Rattle.ty_wire.specs.declared.message.Msg.TheVariants.{Kvs}
use Rattle.ty_wire.proofs.Parts.{body-len}
use Rattle.ty_wire.proofs.kvs.room.Goals as goal

pub returns-clause-enough : goal.returns-clause-enough
returns-clause-enough c = omega (arith, body-len c.args.deltas.now, c.weigh-weight.ensures.weight)

pub returns-clause-fits : goal.returns-clause-fits
returns-clause-fits c =
    let len = length (body (Kvs c.args.deltas.now)) in
    le-leb _ BODY_BYTES (omega arith) ∙ sym (le-leb len BODY_BYTES (omega (arith, body-len c.args.deltas.now, c.weigh-weight.ensures.weight)))
