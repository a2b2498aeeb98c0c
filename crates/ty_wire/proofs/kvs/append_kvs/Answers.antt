use Rattle.std.proofs.Common.{arith}
use Rattle.ty_wire.proofs.Continued.{next-put, tail-put, next-room}
use Rattle.ty_wire.proofs.kvs.append_kvs.Goals as goal

pub append_delta-end-requires-in-loop-count-clause-room : goal.append_delta-end-requires-in-loop-count-clause-room
append_delta-end-requires-in-loop-count-clause-room c =
    let d = c.index-deltas-count in
    omega (arith, c.requires.room, next-room c.args.deltas.now c.loop-count.count d.result (omega arith) d.is c.loop-count.invariant.2)

pub loop-count-preserved : goal.loop-count-preserved
loop-count-preserved c =
    let d = c.index-deltas-count in
    let next = c.append_delta-end-in-loop-count in (
      omega arith,
      omega (arith, c.loop-count.invariant.1, next.ensures.capacity),
      next-put c.args.deltas.now c.loop-count.count d.result (omega arith) d.is c.loop-count.invariant.2 next.ensures.put,
    )

pub returns : goal.returns
returns c = tail-put c.args.deltas.now c.loop-count.count (omega arith) c.loop-count.invariant.2 c.append_text.ensures
