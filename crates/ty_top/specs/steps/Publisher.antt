-- Breadcrumbs that are published as a feed is read.
use Rattle.std.specs.Prelude.{◌≡◌, ◌≤◌, ◌<◌, ℕ, nat_lt, ◌==◌, Bool, true, List, [], ◌++◌, length, Option, None, Some, Result, Ok, Err, OnOk, if◌then◌else◌}
use Rattle.std.specs.List.{list_all}
use Rattle.std.specs.Io.KnownBytes.{Appends}
use Rattle.ty_base.specs.declared.item.Item.{Item}
use Rattle.ty_base.specs.declared.status.Status.{Status}
use Rattle.ty_base.specs.Feed.{book}
use Rattle.ty_base.specs.Causes.{Rose}
use Rattle.ty_base.specs.Devices.{Output}
use Rattle.ty_base.specs.declared.limits.TheConstants.{INPUT_BYTES}
use Rattle.ty_base.specs.Fronts.{AppendsFront}
use Rattle.ty_wire.specs.Talk.{group_messages, status_change}
use Rattle.ty_wire.specs.declared.message.Msg.{Msg}
use Rattle.ty_crumb.specs.declared.crumb.Crumb.{Crumb}
use Rattle.ty_map.specs.Shape.{pairs}
use Rattle.ty_crumb.specs.Crumbs.{CrumbStands, snapshot_of}
use Rattle.ty_intake.specs.declared.batch.Closed.{Closed}
use Rattle.ty_intake.specs.declared.intake.IntakeFault.{IntakeFault}
use Rattle.ty_intake.specs.Batches.{batches, batch_fits, joined}
use Rattle.ty_top.specs.Streamed.{streamed}
use Rattle.ty_top.specs.declared.publisher.Unwritten.{Unwritten}
use Rattle.ty_top.specs.declared.publisher.Unwritten.TheVariants.{Sink as NoRoom, Memory as Short}
use Rattle.ty_top.specs.declared.publisher.Stop.{Stop}
use Rattle.ty_top.specs.declared.publisher.Stop.TheVariants.{Fault, Sink, Memory}

-- the bytes were given whole, or a front of them, and why
abbrev pub Gave : Result (Unit {0}) Unwritten → Output → Output → List ℕ → Type 0
Gave (Ok u) old new bytes = Appends old.held new.held bytes × (old.faults ≤ new.faults)
Gave (Err NoRoom) old new bytes = AppendsFront old.held new.held bytes × Rose old.faults new.faults × (old.faults ≤ new.faults)
Gave (Err Short) old new bytes = AppendsFront old.held new.held bytes × (old.faults ≤ new.faults)

-- what is said of a breadcrumb to one who asked for j and the later ones, behind a breadcrumb with this status
abbrev pub crumb_messages : ℕ → Status → Crumb → List Msg
crumb_messages j before c =
    if nat_lt c.number j then [] else (
    if c.number == j then group_messages (snapshot_of (pairs c.pairs)) (Some c.status) c.number
    else group_messages c.deltas (status_change before c.status) c.number)

-- the breadcrumb stands for the book of these items
pub record CrumbOf (crumb : Crumb) (items : List Item) : Type 0 where
  pub stands : CrumbStands crumb (book true items)
  pub cut : crumb.cut ≤ length items

-- the batches are the last ones of a list of items, behind those that the breadcrumb stands for
pub record Owed (crumb : Crumb) (closed : List Closed) : Type 0 where
  pub ended : Bool
  pub items : List Item
  pub done : List Closed
  pub whole : batches ended items ≡ done ++ closed
  pub few : length items < INPUT_BYTES
  pub fits : list_all batch_fits closed ≡ true
  pub crumb_of : CrumbOf crumb (joined done)

-- the breadcrumbs between a list of items and a longer one were given
pub record AreGiven (j : ℕ) (result : Result (Unit {0}) Unwritten) (crumb : Crumb) (before all : List Item) (old new : Output) : Type 0 where
  pub bytes : List ℕ
  pub more : streamed all j ≡ streamed before j ++ bytes
  pub gave : Gave result old new bytes
  pub crumb_of : OnOk result (CrumbOf crumb all)

abbrev pub gone_on : Option IntakeFault → Result (Unit {0}) Stop
gone_on None = Ok tt
gone_on (Some f) = Err (Fault f)

-- the same, and then a fault was told
abbrev pub AreGivenAndTold : ℕ → Result (Unit {0}) Stop → Option IntakeFault → Crumb → List Item → List Item → Output → Output → Type 0
AreGivenAndTold j (Ok u) fault crumb before all old new = AreGiven j (Ok tt) crumb before all old new × (fault ≡ None)
AreGivenAndTold j (Err (Fault f)) fault crumb before all old new = AreGiven j (Ok tt) crumb before all old new × (fault ≡ Some f)
AreGivenAndTold j (Err Sink) fault crumb before all old new = AreGiven j (Err NoRoom) crumb before all old new
AreGivenAndTold j (Err Memory) fault crumb before all old new = AreGiven j (Err Short) crumb before all old new
