-- A link in memory, as contracts see it.
use Rattle.std.specs.Prelude.{ℕ, ◌+◌, ◌-◌, ◌^◌, ◌≤◌, ◌⊎◌, min, List, [], ◌∷◌, length, Result, Ok, Err}
use Rattle.std.specs.List.{Contains}
use Rattle.ty_base.specs.Memory.{next_call}
use Rattle.ty_base.specs.Links.{Coming, brings, rests, ends, Sight, pieces_left}
use Rattle.ty_base.specs.declared.link.Took.{Took}
use Rattle.ty_base.specs.declared.link.Took.TheVariants as took
use Rattle.ty_base.specs.declared.piece.Piece.{Piece}
use Rattle.ty_base.specs.declared.piece.Piece.TheVariants.{Bytes, Quiet, End}

-- what a link tells, how many bytes it has room for, how many calls were made of it, which calls fail, and how many did
pub record MemoryLink : Type 0 where
  pub sight : Sight
  pub room : ℕ
  pub calls : ℕ
  pub fails : List ℕ
  pub faults : ℕ

-- what these pieces will bring
abbrev pub coming_of : List Piece → List Coming
coming_of [] = []
coming_of (Bytes v ∷ rest) = pieces_left v.items (coming_of rest)
coming_of (Quiet ∷ rest) = rests ∷ coming_of rest
coming_of (End ∷ rest) = ends ∷ coming_of rest

-- what the next take into so much room answers: as many bytes of the first piece as fit
abbrev pub next_took : List Coming → ℕ → Took
next_took [] room = took.End
next_took (brings bytes ∷ rest) room = took.Bytes (min (length bytes) room)
next_took (rests ∷ rest) room = took.Quiet
next_took (ends ∷ rest) room = took.End

-- a count of faults after a call, which a fault has raised unless it stands at the end of its type
abbrev pub faults_after : {T E : Type 0} → Result T E → ℕ → ℕ
faults_after (Ok value) faults = faults
faults_after (Err e) faults = min (faults + 1) (2 ^ 64 - 1)

-- the call is one that fails
abbrev pub TakeFails : MemoryLink → Type 0
TakeFails s = Contains s.fails (next_call s.calls)

-- nothing fits, or the call is one that fails
abbrev pub GiveFails : MemoryLink → Type 0
GiveFails s = (s.room ≤ length s.sight.given) ⊎ Contains s.fails (next_call s.calls)
