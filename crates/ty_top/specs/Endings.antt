-- How the top call ends: what it read and wrote, its status and its note.
use Rattle.std.specs.Prelude.{◌≡◌, ℕ, Bool, true, false, List, [], Option, None, Some, ⊤}
use Rattle.std.specs.Io.KnownBytes.{Appends}
use Rattle.ty_base.specs.Causes.{Rose}
use Rattle.ty_base.specs.Devices.{Seen}
use Rattle.ty_base.specs.Fronts.{AppendsFront}
use Rattle.ty_intake.specs.Lines.{Feed as FeedSoFar}
use Rattle.ty_intake.specs.Faults.{feed_fault}
use Rattle.ty_intake.specs.Batches.{items_of, closed_items}
use Rattle.ty_intake.specs.declared.intake.IntakeFault.{IntakeFault}
use Rattle.ty_intake.specs.declared.intake.IntakeFault.TheVariants as feed
use Rattle.ty_wire.specs.declared.fault.WireFault.TheVariants as wire
use Rattle.ty_base.specs.Limits.{AreSmall}
use Rattle.ty_wire.specs.Stream.{Reads}
use Rattle.ty_wire.specs.declared.message.Msg.{Msg}
use Rattle.ty_client.specs.Heard.{Hears}
use Rattle.ty_client.specs.Followed.{Ended, StoppedBy}
use Rattle.ty_client.specs.declared.fault.StreamFault.{StreamFault}
use Rattle.ty_client.specs.declared.fault.StreamFault.TheVariants as stream
use Rattle.ty_client.specs.declared.follower.FollowFault.TheVariants as faults
use Rattle.ty_core.specs.Script.{script_fault, simulated}
use Rattle.ty_core.specs.Simulated.{Taken, Faulty}
use Rattle.ty_core.specs.declared.simulation.SimFault.{SimFault}
use Rattle.ty_core.specs.declared.simulation.SimFault.TheVariants as sim
use Rattle.ty_load.specs.Summary.{summary}
use Rattle.ty_top.specs.Streamed.{streamed}
use Rattle.ty_words.specs.declared.words.Command.{Command}
use Rattle.ty_words.specs.declared.words.Command.TheVariants as commands
use Rattle.ty_top.specs.declared.ending.Ending.{Ending}
use Rattle.ty_top.specs.declared.ending.Ending.TheVariants.{Usage, Memory, Stream, Follow, Sim, Load}
use Rattle.ty_top.specs.declared.ending.StreamEnd.{StreamEnd}
use Rattle.ty_top.specs.declared.ending.StreamEnd.TheVariants as stream_end
use Rattle.ty_top.specs.declared.ending.FollowEnd.{FollowEnd}
use Rattle.ty_top.specs.declared.ending.FollowEnd.TheVariants as follow_end
use Rattle.ty_top.specs.declared.ending.SimEnd.{SimEnd}
use Rattle.ty_top.specs.declared.ending.SimEnd.TheVariants as sim_end
use Rattle.ty_top.specs.declared.ending.LoadEnd.{LoadEnd}
use Rattle.ty_top.specs.declared.ending.LoadEnd.TheVariants as load_end

-- `stream`

-- all of a feed
abbrev pub whole_feed : List ℕ → FeedSoFar
whole_feed bytes = record { bytes = bytes; ended = true }

-- what is written for a feed from breadcrumb j on: the talk over the items up to the last closing
abbrev pub stated : ℕ → FeedSoFar → List ℕ
stated j read = streamed (closed_items read) j

-- the cause of each ending of `stream` from breadcrumb j on, and what was read and written
abbrev pub Streams : ℕ → StreamEnd → Seen → Seen → Type 0
Streams j stream_end.Done old new = (read : FeedSoFar) × Taken old new read × (read.ended ≡ true) × (feed_fault read ≡ None)
    × AreSmall (items_of read) × Appends old.sink.held new.sink.held (streamed (items_of read) j)
Streams j (stream_end.Fault f) old new = (read : FeedSoFar) × Taken old new read × (feed_fault read ≡ Some f)
    × AreSmall (closed_items read) × Appends old.sink.held new.sink.held (stated j read)
Streams j stream_end.Read old new = (read : FeedSoFar) × Taken old new read × (read.ended ≡ false) × (feed_fault read ≡ None)
    × Rose old.source.faults new.source.faults × AreSmall (closed_items read) × Appends old.sink.held new.sink.held (stated j read)
Streams j stream_end.Write old new = (read : FeedSoFar) × Taken old new read × Rose old.sink.faults new.sink.faults
    × AppendsFront old.sink.held new.sink.held (stated j read)
Streams j stream_end.Memory old new = (read : FeedSoFar) × Taken old new read × AppendsFront old.sink.held new.sink.held (stated j read)

-- `follow`

-- the cause of each ending of `follow`, and what was read and written
abbrev pub Follows : Bool → FollowEnd → Seen → Seen → Type 0
Follows brief follow_end.Done old new = Ended brief old new []
Follows brief (follow_end.Fault f) old new = StoppedBy brief old new (faults.Stream f)
Follows brief (follow_end.Cut left) old new = StoppedBy brief old new (faults.Cut left)
Follows brief follow_end.Read old new = StoppedBy brief old new faults.Read
Follows brief follow_end.Write old new = StoppedBy brief old new faults.Write
Follows brief follow_end.Memory old new = StoppedBy brief old new faults.NoMemory

-- `sim`

-- why a script was run no further, and what was read and written
abbrev pub SimStops : SimFault → Seen → Seen → Type 0
SimStops sim.Read old new = (read : FeedSoFar) × Taken old new read × (read.ended ≡ false) × (script_fault read ≡ None)
    × Rose old.source.faults new.source.faults × Appends old.sink.held new.sink.held (simulated read)
SimStops sim.Write old new = (read : FeedSoFar) × Taken old new read × Rose old.sink.faults new.sink.faults
    × AppendsFront old.sink.held new.sink.held (simulated read)
SimStops sim.NoMemory old new = (read : FeedSoFar) × Taken old new read × AppendsFront old.sink.held new.sink.held (simulated read)
SimStops (sim.Event n) old new = Faulty (sim.Event n) old new
SimStops (sim.Feed n f) old new = Faulty (sim.Feed n f) old new
SimStops (sim.LongLine n) old new = Faulty (sim.LongLine n) old new
SimStops sim.TooMuch old new = Faulty sim.TooMuch old new

-- the cause of each ending of `sim`
abbrev pub Sims : SimEnd → Seen → Seen → Type 0
Sims sim_end.Done old new = (read : FeedSoFar) × Taken old new read × (read.ended ≡ true) × (script_fault read ≡ None)
    × Appends old.sink.held new.sink.held (simulated read)
Sims (sim_end.Stopped f) old new = SimStops f old new

-- `load`

-- the cause of each ending of `load`, and what was written. Nothing is read
abbrev pub Loads : ℕ → LoadEnd → Seen → Seen → Type 0
Loads n load_end.Done old new = (new.source ≡ old.source) × Appends old.sink.held new.sink.held (summary n)
Loads n load_end.Write old new = (new.source ≡ old.source) × Rose old.sink.faults new.sink.faults
    × AppendsFront old.sink.held new.sink.held (summary n)
Loads n load_end.Memory old new = new ≡ old

-- By what the words ask for

-- nothing is wrong with the input, and it ends outside a frame. What is handed on isn't said here
abbrev pub IsGood : Command → List ℕ → Type 0
IsGood (commands.Stream j) bytes = feed_fault (whole_feed bytes) ≡ None
IsGood (commands.Follow brief) bytes = (ms : List Msg) × Hears bytes ms None × Reads bytes ms []
IsGood commands.Sim bytes = script_fault (whole_feed bytes) ≡ None
IsGood (commands.Load n) bytes = ⊤
IsGood (commands.Serve words) bytes = ⊥
IsGood (commands.FollowAt words) bytes = ⊥

-- the cause of each ending
abbrev pub Came : Option Command → Ending → Seen → Seen → Type 0
Came command Usage old new = (command ≡ None) × (new ≡ old)
Came command Memory old new = new ≡ old
Came command (Stream end) old new = (j : ℕ) × (command ≡ Some (commands.Stream j)) × Streams j end old new
Came command (Follow end) old new = (brief : Bool) × (command ≡ Some (commands.Follow brief)) × Follows brief end old new
Came command (Sim end) old new = (command ≡ Some commands.Sim) × Sims end old new
Came command (Load end) old new = (n : ℕ) × (command ≡ Some (commands.Load n)) × Loads n end old new

abbrev pub feed_status : IntakeFault → ℕ
feed_status (feed.LongLine n) = 2
feed_status (feed.BadUtf8 n) = 2
feed_status (feed.BadLine n) = 2
feed_status feed.TooMuch = 8

abbrev pub stream_status : StreamEnd → ℕ
stream_status stream_end.Done = 0
stream_status (stream_end.Fault f) = feed_status f
stream_status stream_end.Read = 3
stream_status stream_end.Write = 4
stream_status stream_end.Memory = 5

abbrev pub fault_status : StreamFault → ℕ
fault_status (stream.Wire wire.TooMuch) = 8
fault_status (stream.Wire (wire.TooLong k len)) = 6
fault_status (stream.Wire (wire.NotJson k)) = 6
fault_status (stream.Wire (wire.Shape k)) = 6
fault_status (stream.Version found) = 6
fault_status (stream.Order k) = 6
fault_status (stream.NotRising k had found) = 6

abbrev pub follow_status : FollowEnd → ℕ
follow_status follow_end.Done = 0
follow_status (follow_end.Fault f) = fault_status f
follow_status (follow_end.Cut left) = 9
follow_status follow_end.Read = 3
follow_status follow_end.Write = 4
follow_status follow_end.Memory = 5

-- the line at which a script shows a fault, if it is a line's
abbrev pub script_line : SimFault → Option ℕ
script_line (sim.Event n) = Some n
script_line (sim.Feed n f) = Some n
script_line (sim.LongLine n) = Some n
script_line sim.TooMuch = None
script_line sim.Read = None
script_line sim.Write = None
script_line sim.NoMemory = None

abbrev pub script_status : SimFault → ℕ
script_status (sim.Event n) = 2
script_status (sim.Feed n f) = 2
script_status (sim.LongLine n) = 2
script_status sim.TooMuch = 8
script_status sim.Read = 3
script_status sim.Write = 4
script_status sim.NoMemory = 5

abbrev pub sim_status : SimEnd → ℕ
sim_status sim_end.Done = 0
sim_status (sim_end.Stopped f) = script_status f

abbrev pub load_status : LoadEnd → ℕ
load_status load_end.Done = 0
load_status load_end.Write = 4
load_status load_end.Memory = 5

abbrev pub exit_status : Ending → ℕ
exit_status Usage = 1
exit_status Memory = 5
exit_status (Stream end) = stream_status end
exit_status (Follow end) = follow_status end
exit_status (Sim end) = sim_status end
exit_status (Load end) = load_status end
