-- A door in memory, as contracts see it.
use Rattle.std.specs.Prelude.{ℕ, List, [], ◌∷◌, drop, Result, Ok, Err}
use Rattle.std.specs.List.{Contains}
use Rattle.ty_base.specs.Memory.{next_call}
use Rattle.ty_base.specs.declared.outside.Failed.{Failed}
use Rattle.ty_base.specs.Doors.{DoorSight}
use Rattle.ty_base.specs.MemoryLinks.{MemoryLink}
use Rattle.ty_base.specs.declared.door.Came.{Came}
use Rattle.ty_base.specs.declared.door.Came.TheVariants.{End}

-- what a door tells, what will come, how many links it gave and how many came back, how many accepts were made of it,
-- which accepts fail, and how many did
pub record MemoryDoor : Type 0 where
  pub sight : DoorSight MemoryLink
  pub coming : List (Came MemoryLink)
  pub gave : ℕ
  pub got : ℕ
  pub calls : ℕ
  pub fails : List ℕ
  pub faults : ℕ

-- what the next accept answers
abbrev pub next_came : List (Came MemoryLink) → Came MemoryLink
next_came [] = End
next_came (came ∷ rest) = came

-- what will come after an answer: it took the first, and a fault none
abbrev pub coming_after : Result (Came MemoryLink) Failed → List (Came MemoryLink) → List (Came MemoryLink)
coming_after (Ok came) coming = drop 1 coming
coming_after (Err e) coming = coming

-- the accept is one that fails
abbrev pub AcceptFails : MemoryDoor → Type 0
AcceptFails d = Contains d.fails (next_call d.calls)
