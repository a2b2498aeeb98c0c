use Rattle.std.proofs.Common.{arith}
use Rattle.ty_wire.proofs.DeltaTexts.{more-next-len, more-end-len, utf8-more, body-size, deltas-size}
use Rattle.ty_wire.proofs.kvs.kvs_len.Goals as goal

pub loop-delta-preserved : goal.loop-delta-preserved
loop-delta-preserved c =
    let ds = c.args.deltas.now in
    let i = c.loop-delta.delta-index in
    let next = more-next-len ds i c.delta-item.result (omega arith) c.delta-item.is in (
      omega (arith, c.loop-delta.invariant.0, next, c.delta_len.ensures.len),
      omega (arith, c.loop-delta.invariant.1, c.delta_len.ensures.bound),
      utf8-more ds i c.delta-item.result (omega arith) c.delta-item.is c.loop-delta.invariant.2 c.delta_len.ensures.utf8,
    )

pub returns-clause-len : goal.returns-clause-len
returns-clause-len c =
    let ds = c.args.deltas.now in
    omega (arith, c.loop-delta.invariant.0, more-end-len ds c.loop-delta.delta-index (omega arith), body-size ds, deltas-size ds c.requires.some)
