-- What `local` comes to: an ending, or words of a mode with connections, which are handed on.
use Rattle.std.specs.Prelude.{◌≡◌, Option, Some}
use Rattle.ty_base.specs.Devices.{Seen, Output}
use Rattle.ty_words.specs.declared.words.Command.{Command}
use Rattle.ty_words.specs.declared.words.Command.TheVariants as commands
use Rattle.ty_top.specs.Endings.{Came, exit_status}
use Rattle.ty_top.specs.Notes.{IsNoted, note_of}
use Rattle.ty_top.specs.declared.ending.Local.{Local}
use Rattle.ty_top.specs.declared.ending.Local.TheVariants as local
use Rattle.ty_top.specs.declared.ending.Outcome.{Outcome}
use Rattle.ty_top.specs.declared.ending.Outcome.TheVariants.{Ended, Serve, Follow}

-- an ending has its cause, and where words are handed on nothing was read or written
abbrev pub CameTo : Option Command → Outcome → Seen → Seen → Type 0
CameTo command (Ended ending) old new = Came command ending old new
CameTo command (Serve words) old new = (command ≡ Some (commands.Serve words)) × (new ≡ old)
CameTo command (Follow words) old new = (command ≡ Some (commands.FollowAt words)) × (new ≡ old)

-- an ending is answered by its status, and its note is told; words are answered as they are, and nothing is told
abbrev pub IsLocalOf : Outcome → Local → Output → Output → Type 0
IsLocalOf (Ended ending) result old new = (result ≡ local.Done (exit_status ending)) × IsNoted old new (note_of ending)
IsLocalOf (Serve words) result old new = (result ≡ local.Serve words) × (new ≡ old)
IsLocalOf (Follow words) result old new = (result ≡ local.Follow words) × (new ≡ old)
