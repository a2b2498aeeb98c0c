use Rattle.std.proofs.Common.{arith, refl, sym, ◌∙◌}
use Rattle.ty_core.proofs.Runs.{ticks_begin, ticks_end}
use Rattle.ty_core.proofs.events.tick_all.Goals as goal

pub loop-i-init : goal.loop-i-init
loop-i-init c = record {
  count = refl;
  ticks = λ es clients len st. ticks_begin c.args.slots.now.items es clients c.args.now c.new-told.result.items st c.new-told.ensures.items;
}

pub loop-i-preserved : goal.loop-i-preserved
loop-i-preserved c = record {
  count = c.tick_at.ensures.count ∙ c.loop-i.invariant.count;
  ticks = λ es clients len st. c.in_ok-tick_at.ensures.ticks es clients (len ∙ sym c.loop-i.invariant.count) (c.loop-i.invariant.ticks es clients len st);
}

pub returns-clause-ticks : goal.returns-clause-ticks
returns-clause-ticks c = λ es clients len st.
    ticks_end c.loop-i.slots.items es clients c.loop-i.i c.args.now c.loop-i.told.items (len ∙ sym c.loop-i.invariant.count) (omega arith) (c.loop-i.invariant.ticks es clients len st)
