-- What events make of a run.
use Rattle.std.specs.Prelude.{◌≡◌, ℕ, ◌<◌, ◌≤◌, List, take, None, Some, slice_get}
use Rattle.ty_base.specs.declared.entry.Entry.{Entry}
use Rattle.ty_core.specs.declared.client.Client.{Client}
use Rattle.ty_script.specs.declared.event.Event.{Event}
use Rattle.ty_core.specs.declared.run.Run.{Run}
use Rattle.ty_core.specs.declared.slot.Slot.{Slot}
use Rattle.ty_core.specs.declared.told.Told.{Told}
use Rattle.ty_core.specs.Run.{State, next_state, finished, event_fault, tick_client}
use Rattle.ty_core.specs.Report.{event_told, told_end, told_ticks}
use Rattle.ty_core.specs.Text.{report_text}
use Rattle.ty_core.specs.Held.{RunStands, SlotStands}

-- some state is behind a run
abbrev pub HasState : Run → Type 0
HasState r = (s : State) × RunStands r s

-- the event brings no fault, the run stands for the state behind it, and this was told
pub record RunMoves (r : Run) (s : State) (e : Event) (told : List Told) : Type 0 where
  pub stands : RunStands r (next_state s e)
  pub good : event_fault s e ≡ None
  pub told_is : told ≡ event_told s e

-- place for place
abbrev pub SlotsStand : List Slot → List Entry → List Client → Type 0
SlotsStand slots es clients = (i : ℕ) (slot : Slot) (c : Client) → slice_get slots i ≡ Some slot → slice_get clients i ≡ Some c → SlotStands slot es c

-- with the lines that are told
pub record RunTells (r : Run) (s : State) (e : Event) (text : List ℕ) : Type 0 where
  pub stands : RunStands r (next_state s e)
  pub good : event_fault s e ≡ None
  pub text_is : text ≡ report_text (event_told s e)

pub record RunEnds (r : Run) (s : State) (text : List ℕ) : Type 0 where
  pub stands : RunStands r (finished s)
  pub text_is : text ≡ report_text (told_end s)

-- the clients before place i have ticked, which told this
pub record AreTicking (slots : List Slot) (es : List Entry) (clients : List Client) (i now : ℕ) (told : List Told) : Type 0 where
  pub done : (n : ℕ) (slot : Slot) (c : Client) → n < i → slice_get slots n ≡ Some slot → slice_get clients n ≡ Some c → SlotStands slot es (tick_client now c)
  pub rest : (n : ℕ) (slot : Slot) (c : Client) → i ≤ n → slice_get slots n ≡ Some slot → slice_get clients n ≡ Some c → SlotStands slot es c
  pub told_is : told ≡ told_ticks now 1 (take i clients)
