-- What `sim` has done with a script that it has read to its end.
use Rattle.std.specs.Prelude.{◌≡◌, true}
use Rattle.std.specs.Io.KnownBytes.{Appends}
use Rattle.ty_base.specs.Devices.{Seen}
use Rattle.ty_intake.specs.Lines.{Feed as FeedSoFar}
use Rattle.ty_core.specs.Interleavings.{RebuildsWorlds}
use Rattle.ty_core.specs.Report.{report}
use Rattle.ty_core.specs.Script.{whole_script}
use Rattle.ty_core.specs.Simulated.{Taken}
use Rattle.ty_core.specs.Text.{report_text}

-- the report of all that the script says was written, and whatever it says, each map that is told is the world of its
-- number, what reaches a client rebuilds worlds whose numbers rise, and maps of one number are equal
pub record TellsWorlds (old new : Seen) : Type 0 where
  pub read : FeedSoFar
  pub taken : Taken old new read
  pub ended : read.ended ≡ true
  pub written : Appends old.sink.held new.sink.held (report_text (report (whole_script read)))
  pub worlds : RebuildsWorlds (whole_script read)
