use Rattle.std.proofs.Common.{◌≡◌, List, length}
use Rattle.ty_base.specs.declared.entry.Entry.{Entry}
use Rattle.ty_core.specs.declared.client.Client.{Client}
use Rattle.ty_core.specs.steps.Runs.{SlotsStand, AreTicking}
use Rattle.ty_core.proofs.events.tick_all.Given as goal

abbrev pub invariant-loop-i : goal.invariant-loop-i
invariant-loop-i l = record {
  count : length l.slots.items ≡ length l.fn.slots.items;
  ticks : (es : List Entry) (clients : List Client) → length clients ≡ length l.fn.slots.items → SlotsStand l.fn.slots.items es clients → AreTicking l.slots.items es clients l.i l.now l.told.items;
}
