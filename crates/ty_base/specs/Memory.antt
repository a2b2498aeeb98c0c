-- A source and a sink in memory, as contracts see them.
use Rattle.std.specs.Prelude.{ℕ, ◌+◌, ◌-◌, ◌^◌, ◌≤◌, ◌⊎◌, min, List, [], ◌∷◌, length, nat_lt, if◌then◌else◌}
use Rattle.std.specs.List.{Contains}

-- what a source has left, how many bytes it gave before, where its pieces end, how many calls were made of it, which
-- calls fail, and how many did
pub record MemorySource : Type 0 where
  pub left : List ℕ
  pub at : ℕ
  pub ends : List ℕ
  pub calls : ℕ
  pub fails : List ℕ
  pub faults : ℕ

-- what a sink holds and how much it has room for; the rest as of a source
pub record MemorySink : Type 0 where
  pub held : List ℕ
  pub room : ℕ
  pub calls : ℕ
  pub fails : List ℕ
  pub faults : ℕ

-- where each of some pieces ends, behind so many bytes
abbrev pub ends_after : ℕ → List (List ℕ) → List ℕ
ends_after before [] = []
ends_after before (piece ∷ pieces) = (before + length piece) ∷ ends_after (before + length piece) pieces

-- of the piece in which a place lies, where it ends: the first end behind the place, or else the end of all
unfoldable pub end_of : List ℕ → ℕ → ℕ → ℕ
end_of [] at all = all
end_of (end ∷ ends) at all = if nat_lt at end then min all end else end_of ends at all

-- the bytes that the next call gives into so much room
abbrev pub piece_left : MemorySource → ℕ → ℕ
piece_left s room = min (end_of s.ends s.at (s.at + length s.left) - s.at) room

-- the number of the next call
abbrev pub next_call : ℕ → ℕ
next_call calls = min (calls + 1) (2 ^ 64 - 1)

abbrev pub SourceFails : MemorySource → Type 0
SourceFails s = Contains s.fails (next_call s.calls)

-- nothing fits, or the call is one that fails
abbrev pub SinkFails : MemorySink → Type 0
SinkFails s = (s.room ≤ length s.held) ⊎ Contains s.fails (next_call s.calls)
