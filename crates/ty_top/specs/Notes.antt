-- What is told of an ending.
use Rattle.std.specs.Prelude.{ℕ, ◌≤◌, ◌⊎◌, List, [], ◌++◌, codes, decimal}
use Rattle.std.specs.Io.KnownBytes.{Appends}
use Rattle.ty_base.specs.Causes.{Rose}
use Rattle.ty_base.specs.Devices.{Output}
use Rattle.ty_base.specs.Fronts.{AppendsFront}
use Rattle.ty_wire.specs.declared.fault.WireFault.TheVariants as wire
use Rattle.ty_intake.specs.declared.intake.IntakeFault.{IntakeFault}
use Rattle.ty_intake.specs.declared.intake.IntakeFault.TheVariants as feed
use Rattle.ty_client.specs.declared.fault.StreamFault.{StreamFault}
use Rattle.ty_client.specs.declared.fault.StreamFault.TheVariants as stream
use Rattle.ty_core.specs.declared.simulation.SimFault.{SimFault}
use Rattle.ty_core.specs.declared.simulation.SimFault.TheVariants as sim
use Rattle.ty_top.specs.declared.ending.Ending.{Ending}
use Rattle.ty_top.specs.declared.ending.Ending.TheVariants.{Usage, Memory, Stream, Follow, Sim, Load}
use Rattle.ty_top.specs.declared.ending.StreamEnd.{StreamEnd}
use Rattle.ty_top.specs.declared.ending.StreamEnd.TheVariants as stream_end
use Rattle.ty_top.specs.declared.ending.FollowEnd.{FollowEnd}
use Rattle.ty_top.specs.declared.ending.FollowEnd.TheVariants as follow_end
use Rattle.ty_top.specs.declared.ending.SimEnd.{SimEnd}
use Rattle.ty_top.specs.declared.ending.SimEnd.TheVariants as sim_end
use Rattle.ty_top.specs.declared.ending.LoadEnd.{LoadEnd}
use Rattle.ty_top.specs.declared.ending.LoadEnd.TheVariants as load_end

abbrev pub usage_note : List ℕ
usage_note = codes "usage: typha stream|follow|sim|load|serve [--from N] [--brief] [--at ADDR] [--host NAME] [--tries N] [--number N] [--workers N]\n"

-- a text with a number in it
abbrev pub with_number : List ℕ → ℕ → List ℕ → List ℕ
with_number before n after = before ++ (decimal n ++ after)

-- one with two
abbrev pub with_two_numbers : List ℕ → ℕ → List ℕ → ℕ → List ℕ → List ℕ
with_two_numbers before n between m after = before ++ (decimal n ++ with_number between m after)

abbrev pub rising_note : ℕ → ℕ → ℕ → List ℕ
rising_note k had found = codes "typha: frame " ++ (decimal k ++ with_two_numbers (codes ": crumb ") found (codes " after ") had (codes "\n"))

abbrev pub fault_note : StreamFault → List ℕ
fault_note (stream.Wire (wire.TooLong k len)) = with_two_numbers (codes "typha: frame ") k (codes ": too long ") len (codes "\n")
fault_note (stream.Wire (wire.NotJson k)) = with_number (codes "typha: frame ") k (codes ": not JSON\n")
fault_note (stream.Wire (wire.Shape k)) = with_number (codes "typha: frame ") k (codes ": not a message\n")
fault_note (stream.Wire wire.TooMuch) = codes "typha: too much input\n"
fault_note (stream.Order k) = with_number (codes "typha: frame ") k (codes ": out of order\n")
fault_note (stream.NotRising k had found) = rising_note k had found
fault_note (stream.Version found) = with_number (codes "typha: frame 1: version ") found (codes "\n")

abbrev pub feed_note : IntakeFault → List ℕ
feed_note (feed.LongLine n) = with_number (codes "typha: line ") n (codes ": too long\n")
feed_note (feed.BadUtf8 n) = with_number (codes "typha: line ") n (codes ": not UTF-8\n")
feed_note (feed.BadLine n) = with_number (codes "typha: line ") n (codes ": not a feed line\n")
feed_note feed.TooMuch = codes "typha: too much input\n"

abbrev pub read_note : List ℕ
read_note = codes "typha: read fault\n"

abbrev pub write_note : List ℕ
write_note = codes "typha: write fault\n"

abbrev pub memory_note : List ℕ
memory_note = codes "typha: out of memory\n"

abbrev pub cut_note : ℕ → List ℕ
cut_note left = with_number (codes "typha: stream cut ") left (codes "\n")

abbrev pub stream_note : StreamEnd → List ℕ
stream_note stream_end.Done = []
stream_note (stream_end.Fault f) = feed_note f
stream_note stream_end.Read = read_note
stream_note stream_end.Write = write_note
stream_note stream_end.Memory = memory_note

abbrev pub follow_note : FollowEnd → List ℕ
follow_note follow_end.Done = []
follow_note (follow_end.Fault f) = fault_note f
follow_note (follow_end.Cut left) = cut_note left
follow_note follow_end.Read = read_note
follow_note follow_end.Write = write_note
follow_note follow_end.Memory = memory_note

abbrev pub script_note : SimFault → List ℕ
script_note (sim.Event n) = with_number (codes "typha: line ") n (codes ": not an event\n")
script_note (sim.Feed n f) = feed_note f
script_note (sim.LongLine n) = feed_note (feed.LongLine n)
script_note sim.TooMuch = feed_note feed.TooMuch
script_note sim.Read = read_note
script_note sim.Write = write_note
script_note sim.NoMemory = memory_note

abbrev pub sim_note : SimEnd → List ℕ
sim_note sim_end.Done = []
sim_note (sim_end.Stopped f) = script_note f

abbrev pub load_note : LoadEnd → List ℕ
load_note load_end.Done = []
load_note load_end.Write = write_note
load_note load_end.Memory = memory_note

abbrev pub note_of : Ending → List ℕ
note_of Usage = usage_note
note_of Memory = memory_note
note_of (Stream end) = stream_note end
note_of (Follow end) = follow_note end
note_of (Sim end) = sim_note end
note_of (Load end) = load_note end

-- the text was given whole, or a front of it where the sink failed
abbrev pub IsNoted : Output → Output → List ℕ → Type 0
IsNoted old new text = (old.faults ≤ new.faults) × (Appends old.held new.held text ⊎ (AppendsFront old.held new.held text × Rose old.faults new.faults))
