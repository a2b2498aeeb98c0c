use Rattle.std.proofs.Common.{◌≡◌, ℕ, List, length}
use Rattle.std.specs.Prelude.{Some, slice_get}
use Rattle.ty_base.specs.declared.entry.Entry.{Entry}
use Rattle.ty_core.specs.declared.slot.Slot.{Slot}
use Rattle.ty_core.specs.Clients.{no_client}
use Rattle.ty_core.specs.Held.{SlotStands}
use Rattle.ty_core.proofs.events.no_slots.Given as goal

abbrev pub invariant-loop : goal.invariant-loop
invariant-loop l = record {
  count : length l.slots.items ≡ l.counter;
  none : (es : List Entry) (i : ℕ) (slot : Slot) → slice_get l.slots.items i ≡ Some slot → SlotStands slot es no_client;
}
