-- How much of a list of deltas is written.
use Rattle.std.specs.Prelude.{◌≡◌, ℕ, List, ◌++◌}
use Rattle.ty_base.specs.declared.delta.Delta.{Delta}
use Rattle.ty_wire.specs.Wire.{frames}
use Rattle.ty_wire.specs.Talk.{kvs_messages}

-- what is written and what is owed for the rest is all
abbrev pub IsWritten : List Delta → List Delta → List ℕ → List ℕ → Type 0
IsWritten ds rest before now = now ++ frames (kvs_messages rest) ≡ before ++ frames (kvs_messages ds)

abbrev pub Keeps : List ℕ → List ℕ → Type 0
Keeps before now = (more : List ℕ) × (now ≡ before ++ more)
