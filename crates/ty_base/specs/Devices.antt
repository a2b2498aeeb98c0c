-- What contracts see of what bytes come from and where they go. A device tells of its bytes, or it doesn't.
use Rattle.std.specs.Prelude.{ℕ, List, Option}

-- the bytes that a source has left, where it tells, and how often it has failed
pub record Input : Type 0 where
  pub left : Option (List ℕ)
  pub faults : ℕ

-- the bytes that a sink holds, where it tells, and how often it has failed
pub record Output : Type 0 where
  pub held : Option (List ℕ)
  pub faults : ℕ

-- both of a program that reads the one and writes to the other
pub record Seen : Type 0 where
  pub source : Input
  pub sink : Output

abbrev pub seen : Input → Output → Seen
seen source sink = record { source = source; sink = sink }
