-- One accept of a worker, and the client that came.
use Rattle.std.specs.Prelude.{◌≡◌, ℕ, ⊤, Some, Result, Ok, Err}
use Rattle.ty_base.specs.Doors.{DoorSight}
use Rattle.ty_base.specs.declared.door.Came.TheVariants.{Quiet, End}
use Rattle.ty_server.specs.declared.worker.DoorFault.{DoorFault}
use Rattle.ty_server.specs.declared.worker.Visit.{Visit}
use Rattle.ty_server.specs.declared.worker.Visit.TheVariants as visit

-- how many links came back
abbrev pub served_in : Result Visit DoorFault → ℕ
served_in (Ok visit.Served) = 1
served_in (Ok visit.Short) = 1
served_in (Ok visit.Quiet) = 0
served_in (Ok visit.End) = 0
served_in (Err e) = 0

-- how many of them were dropped for want of memory
abbrev pub short_in : Result Visit DoorFault → ℕ
short_in (Ok visit.Served) = 0
short_in (Ok visit.Short) = 1
short_in (Ok visit.Quiet) = 0
short_in (Ok visit.End) = 0
short_in (Err e) = 0

-- what the door answered, where nobody came
abbrev pub IsVisit : {L : Type 0} → Visit → DoorSight L → DoorSight L → Type 0
IsVisit visit.Served x y = ⊤
IsVisit visit.Short x y = ⊤
IsVisit visit.Quiet x y = y.last ≡ Some (Ok Quiet)
IsVisit visit.End x y = y.last ≡ Some (Ok End)
