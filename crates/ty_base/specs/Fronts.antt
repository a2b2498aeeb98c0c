-- What a call gave or took before it failed.
use Rattle.std.specs.Prelude.{◌≡◌, ◌<◌, ℕ, List, Option, ◌++◌, length}
use Rattle.std.specs.Io.KnownBytes.{Appends, Consumes}

-- known bytes grew by a front of bytes
abbrev pub AppendsFront : Option (List ℕ) → Option (List ℕ) → List ℕ → Type 0
AppendsFront old new bytes = (front : List ℕ) × (rest : List ℕ) × (bytes ≡ front ++ rest) × Appends old new front

-- fewer than n known bytes were taken
abbrev pub ConsumesFewer : Option (List ℕ) → Option (List ℕ) → ℕ → Type 0
ConsumesFewer old new n = (bytes : List ℕ) × Consumes old new bytes × (length bytes < n)
