-- What the top call comes to.
use Rattle.std.specs.Prelude.{◌≡◌, ◌⊎◌, ℕ, List, [], ◌∷◌, Option, Some}
use Rattle.ty_base.specs.Causes.{Rose}
use Rattle.ty_base.specs.Devices.{Input, Output, seen}
use Rattle.ty_base.specs.Doors.{DoorSight}
use Rattle.ty_base.specs.Links.{Sight}
use Rattle.ty_words.specs.declared.words.Command.{Command}
use Rattle.ty_words.specs.declared.words.Command.TheVariants.{Serve, FollowAt}
use Rattle.ty_words.specs.declared.words.ServeWords.{ServeWords}
use Rattle.ty_words.specs.declared.words.FollowWords.{FollowWords}
use Rattle.ty_top.specs.Dialling.{FollowsAt}
use Rattle.ty_top.specs.Endings.{Came, exit_status}
use Rattle.ty_top.specs.LinkEndings.{dial_note, dial_status, serve_note, serve_status}
use Rattle.ty_top.specs.Notes.{IsNoted, note_of}
use Rattle.ty_top.specs.Serving.{Serves}
use Rattle.ty_top.specs.declared.ending.Ending.{Ending}
use Rattle.ty_top.specs.declared.link_ending.ServeEnd.{ServeEnd}
use Rattle.ty_top.specs.declared.link_ending.DialEnd.{DialEnd}

-- what is around the program: the source, the sink, the notes, the doors and the dialler
pub record Around (D : Type 0) : Type 0 where
  pub source : Input
  pub sink : Output
  pub notes : Output
  pub doors : List D
  pub dial : D

abbrev pub around : {D : Type 0} → Input → Output → Output → List D → D → Around D
around source sink notes doors dial = record { source = source; sink = sink; notes = notes; doors = doors; dial = dial }

-- the count of one door rose
abbrev pub SomeRose : {D : Type 0} → (D → ℕ) → List D → List D → Type 0
SomeRose count [] ys = ⊥
SomeRose count (x ∷ xs) [] = ⊥
SomeRose count (x ∷ xs) (y ∷ ys) = Rose (count x) (count y) ⊎ SomeRose count xs ys

-- of what doors and links tell and count, over the clock's moments
module _ {D L : Type 0} (gave got count : D → ℕ) (sight : D → Option (DoorSight L)) (link : L → Option Sight) (faults : L → ℕ) (gives : ℕ → Type 0)
    (command : Option Command) (status : ℕ) (old new : Around D) where
  -- a mode over the source and the sink ended so
  pub record IsLocal (ending : Ending) : Type 0 where
    pub status_is : status ≡ exit_status ending
    pub cause : Came command ending (seen old.source old.sink) (seen new.source new.sink)
    pub told : IsNoted old.notes new.notes (note_of ending)
    pub doors_kept : new.doors ≡ old.doors
    pub dial_kept : new.dial ≡ old.dial

  -- the feed was served, which ended so
  pub record IsServing (words : ServeWords) (end : ServeEnd) : Type 0 where
    pub asked : command ≡ Some (Serve words)
    pub status_is : status ≡ serve_status end
    pub cause : Serves gave got count sight link faults gives end old.source new.source old.doors new.doors
    pub told : IsNoted old.notes new.notes (serve_note end)
    pub sink_kept : new.sink ≡ old.sink
    pub dial_kept : new.dial ≡ old.dial

  -- a server was followed, which ended so
  pub record IsFollowing (words : FollowWords) (end : DialEnd) : Type 0 where
    pub asked : command ≡ Some (FollowAt words)
    pub status_is : status ≡ dial_status end
    pub cause : FollowsAt gave got count sight link faults words end old.dial new.dial old.sink new.sink
    pub told : IsNoted old.notes new.notes (dial_note end)
    pub source_kept : new.source ≡ old.source
    pub doors_kept : new.doors ≡ old.doors

  pub data IsRun : Type 0 where
    local : (ending : Ending) → IsLocal ending → IsRun
    served : (words : ServeWords) (end : ServeEnd) → IsServing words end → IsRun
    followed : (words : FollowWords) (end : DialEnd) → IsFollowing words end → IsRun
