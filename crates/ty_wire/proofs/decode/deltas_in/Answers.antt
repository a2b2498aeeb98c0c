use Rattle.std.proofs.Common.{arith, sym, ◌∙◌}
use Rattle.ty_wire.proofs.Members.{deltas-end, deltas-none, deltas-step}
use Rattle.ty_wire.proofs.decode.deltas_in.Goals as goal

pub returns-in-None : goal.returns-in-None
returns-in-None c = deltas-none c.args.values.now c.loop-value.value-index c.value-item.result c.loop-value.deltas _ (omega arith) c.value-item.is (sym c.in-None.is ∙ c.in_ok-delta.ensures) c.loop-value.invariant

pub loop-value-preserved : goal.loop-value-preserved
loop-value-preserved c = rw (c.in_ok-push-in-Some.ensures.ok) (deltas-step c.args.values.now c.loop-value.value-index c.value-item.result c.in-Some.delta c.loop-value.deltas _ (omega arith) c.value-item.is (sym c.in-Some.is ∙ c.in_ok-delta.ensures) c.loop-value.invariant)

pub returns : goal.returns
returns c = deltas-end c.args.values.now c.loop-value.value-index c.loop-value.deltas _ (omega arith) c.loop-value.invariant
