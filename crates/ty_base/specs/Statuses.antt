-- The texts of the three statuses.
use Rattle.std.specs.Prelude.{Bool, true, false, List, ℕ, codes, Option, None, Some, if◌then◌else◌}
use Rattle.std.specs.Str.{bytes_eq}
use Rattle.ty_base.specs.declared.status.Status.{Status}
use Rattle.ty_base.specs.declared.status.Status.TheVariants.{Wait, Resync, InSync}

abbrev pub status_text : Status → List ℕ
status_text Wait = codes "wait-for-ready"
status_text Resync = codes "resync"
status_text InSync = codes "in-sync"

-- the status that a text names
abbrev pub status_of : List ℕ → Option Status
status_of text =
    if bytes_eq text (status_text Wait) then Some Wait else (
    if bytes_eq text (status_text Resync) then Some Resync else (
    if bytes_eq text (status_text InSync) then Some InSync else None))

abbrev pub same_status : Status → Status → Bool
same_status Wait Wait = true
same_status Resync Resync = true
same_status InSync InSync = true
same_status _ _ = false
