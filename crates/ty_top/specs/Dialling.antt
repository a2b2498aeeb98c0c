-- Why a run of `follow --at` ends.
use Rattle.std.specs.Prelude.{◌≡◌, ℕ, Option, Ok, Err}
use Rattle.ty_base.specs.Devices.{Output}
use Rattle.ty_base.specs.Doors.{DoorSight}
use Rattle.ty_base.specs.Links.{Sight}
use Rattle.ty_dial.specs.Dialled.{Answer, Dials}
use Rattle.ty_dial.specs.declared.fault.DialFault.TheVariants as fault
use Rattle.ty_words.specs.declared.words.FollowWords.{FollowWords}
use Rattle.ty_top.specs.declared.link_ending.DialEnd.{DialEnd}
use Rattle.ty_top.specs.declared.link_ending.DialEnd.TheVariants.{Done, Fault, Cut, Link, Door, Write, Memory}

abbrev pub dial_end : Answer → DialEnd
dial_end (Ok u) = Done
dial_end (Err (fault.Stream f)) = Fault f
dial_end (Err (fault.Cut left)) = Cut left
dial_end (Err fault.Link) = Link
dial_end (Err fault.Door) = Door
dial_end (Err fault.Write) = Write
dial_end (Err fault.NoMemory) = Memory

-- of what dialler and links tell and count: the connections that were followed, by the words
pub record FollowsAt {D L : Type 0} (gave got count : D → ℕ) (sight : D → Option (DoorSight L)) (link : L → Option Sight) (faults : L → ℕ)
    (words : FollowWords) (end : DialEnd) (x y : D) (old new : Output) : Type 0 where
  pub answer : Answer
  pub end_is : end ≡ dial_end answer
  pub dials : Dials gave got count sight link faults words.host words.tries words.brief x y old new answer
