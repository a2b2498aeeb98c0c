-- What running a script to its end comes to.
use Rattle.std.specs.Prelude.{◌≡◌, List, [], ◌∷◌, ◌++◌, None, Some, true, false}
use Rattle.std.specs.Io.KnownBytes.{Appends, Consumes, IsAtEnd}
use Rattle.ty_base.specs.Causes.{Rose}
use Rattle.ty_base.specs.Devices.{Seen}
use Rattle.ty_base.specs.Fronts.{AppendsFront}
use Rattle.ty_intake.specs.Lines.{Feed}
use Rattle.ty_core.specs.Run.{Happening, end}
use Rattle.ty_core.specs.Held.{WorldHeld, WorldStands}
use Rattle.ty_core.specs.Script.{happenings_of, ending_of, script_fault, simulated}
use Rattle.ty_core.specs.declared.simulation.SimFault.{SimFault}
use Rattle.ty_core.specs.declared.simulation.SimFault.TheVariants.{Event as NotEvent, Feed as FeedFault, LongLine, TooMuch, Read, Write, NoMemory}

-- these bytes were taken, and the source's end where the script has ended
pub record Taken (old new : Seen) (read : Feed) : Type 0 where
  pub bytes : Consumes old.source.left new.source.left read.bytes
  pub end : read.ended ≡ true → IsAtEnd new.source.left

-- the script was read to its end, has no fault, and its whole report was written
pub record Simulated (world : WorldHeld) (old new : Seen) : Type 0 where
  pub read : Feed
  pub taken : Taken old new read
  pub ended : read.ended ≡ true
  pub good : script_fault read ≡ None
  pub stands : WorldStands world (happenings_of read ++ end ∷ [])
  pub written : Appends old.sink.held new.sink.held (simulated read)

-- the report of the events before the fault was written
pub record Faulty (fault : SimFault) (old new : Seen) : Type 0 where
  pub read : Feed
  pub taken : Taken old new read
  pub found : script_fault read ≡ Some fault
  pub written : Appends old.sink.held new.sink.held (simulated read)

-- why it went no further
abbrev pub SimStopped : WorldHeld → Seen → Seen → SimFault → Type 0
SimStopped world old new Read = (read : Feed) × Taken old new read × (read.ended ≡ false) × (script_fault read ≡ None)
    × Rose old.source.faults new.source.faults × WorldStands world (happenings_of read) × Appends old.sink.held new.sink.held (simulated read)
SimStopped world old new Write = (read : Feed) × (hs more : List Happening) × Taken old new read × Rose old.sink.faults new.sink.faults
    × (happenings_of read ++ ending_of read ≡ hs ++ more) × WorldStands world hs × AppendsFront old.sink.held new.sink.held (simulated read)
SimStopped world old new NoMemory = (read : Feed) × Taken old new read × AppendsFront old.sink.held new.sink.held (simulated read)
SimStopped world old new (NotEvent n) = Faulty (NotEvent n) old new
SimStopped world old new (FeedFault n f) = Faulty (FeedFault n f) old new
SimStopped world old new (LongLine n) = Faulty (LongLine n) old new
SimStopped world old new TooMuch = Faulty TooMuch old new
