-- A feed that is read piece by piece, and what is stated of it.
use Rattle.std.specs.Prelude.{◌≡◌, ℕ, List, ◌++◌, Option, None, Some, Result, Ok, Err}
use Rattle.std.specs.Io.KnownBytes.{Appends}
use Rattle.ty_base.specs.Causes.{Rose}
use Rattle.ty_base.specs.Devices.{Output}
use Rattle.ty_base.specs.Fronts.{AppendsFront}
use Rattle.ty_base.specs.Limits.{AreSmall}
use Rattle.ty_crumb.specs.declared.crumb.Crumb.{Crumb}
use Rattle.ty_intake.specs.Lines.{Feed as FeedSoFar, ended_now}
use Rattle.ty_intake.specs.Faults.{feed_fault}
use Rattle.ty_intake.specs.Batches.{closed_items}
use Rattle.ty_intake.specs.Held.{IntakeHeld, IntakeStands}
use Rattle.ty_top.specs.Endings.{stated}
use Rattle.ty_top.specs.steps.Publisher.{CrumbOf}
use Rattle.ty_top.specs.declared.ending.StreamEnd.{StreamEnd}
use Rattle.ty_top.specs.declared.ending.StreamEnd.TheVariants as stream_end
use Rattle.ty_top.specs.declared.publisher.Stop.{Stop}
use Rattle.ty_top.specs.declared.publisher.Stop.TheVariants.{Fault, Sink, Memory}

-- the intake has read this feed, and the breadcrumb stands for the batches that it closed
pub record IsReadTo (intake : IntakeHeld) (crumb : Crumb) (feed : FeedSoFar) : Type 0 where
  pub stands : IntakeStands intake feed
  pub crumb_of : CrumbOf crumb (closed_items feed)

-- what a longer feed states beyond a shorter one was given
pub record Stated (j : ℕ) (before now : FeedSoFar) (old new : Option (List ℕ)) : Type 0 where
  pub bytes : List ℕ
  pub more : stated j now ≡ stated j before ++ bytes
  pub gave : Appends old new bytes
  pub small : AreSmall (closed_items before) → AreSmall (closed_items now)

-- a front of it was
pub record StatedPart (j : ℕ) (before now : FeedSoFar) (old new : Option (List ℕ)) : Type 0 where
  pub bytes : List ℕ
  pub more : stated j now ≡ stated j before ++ bytes
  pub gave : AppendsFront old new bytes

-- a piece was read, with which the feed is `now`
abbrev pub IsPieceRead : ℕ → Result (Unit {0}) Stop → IntakeHeld → Crumb → FeedSoFar → FeedSoFar → Output → Output → Type 0
IsPieceRead j (Ok u) intake crumb feed now old new = IsReadTo intake crumb now × (feed_fault now ≡ None) × Stated j feed now old.held new.held
IsPieceRead j (Err (Fault f)) intake crumb feed now old new = (feed_fault now ≡ Some f) × Stated j feed now old.held new.held
IsPieceRead j (Err Sink) intake crumb feed now old new = Rose old.faults new.faults × StatedPart j feed now old.held new.held
IsPieceRead j (Err Memory) intake crumb feed now old new = StatedPart j feed now old.held new.held

-- the end was read
abbrev pub IsEndRead : ℕ → Result (Unit {0}) Stop → FeedSoFar → Output → Output → Type 0
IsEndRead j (Ok u) feed old new = (feed_fault (ended_now feed) ≡ None) × Stated j feed (ended_now feed) old.held new.held
IsEndRead j (Err (Fault f)) feed old new = (feed_fault (ended_now feed) ≡ Some f) × Stated j feed (ended_now feed) old.held new.held
IsEndRead j (Err Sink) feed old new = Rose old.faults new.faults × StatedPart j feed (ended_now feed) old.held new.held
IsEndRead j (Err Memory) feed old new = (now : FeedSoFar) × (now.bytes ≡ feed.bytes) × StatedPart j feed now old.held new.held

-- how a run ends at such a stop
abbrev pub end_at : Stop → StreamEnd
end_at (Fault f) = stream_end.Fault f
end_at Sink = stream_end.Write
end_at Memory = stream_end.Memory

abbrev pub end_by : Result (Unit {0}) Stop → StreamEnd
end_by (Ok u) = stream_end.Done
end_by (Err stop) = end_at stop
