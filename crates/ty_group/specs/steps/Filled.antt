-- For private clauses: a message that is being filled.
use Rattle.std.specs.Prelude.{◌≡◌, ℕ, Bool, true, List, [], ◌∷◌, ◌++◌}
use Rattle.std.specs.List.{sum_by}
use Rattle.ty_base.specs.declared.delta.Delta.{Delta}
use Rattle.ty_base.specs.Limits.{deltas_fit}
use Rattle.ty_wire.specs.Cut.{weight, takes, cut_on, cut_deltas}

-- what is cut behind a message that is being filled, or that has none yet
abbrev pub cut_behind : List Delta → List Delta → List (List Delta)
cut_behind [] rest = cut_deltas rest
cut_behind (d ∷ ds) rest = cut_on (d ∷ ds) rest

-- whatever comes behind, the first message begins with all of these
abbrev pub IsOpen : List Delta → Type 0
IsOpen ds = (rest : List Delta) → cut_deltas (ds ++ rest) ≡ cut_behind ds rest

-- the deltas of a message that is being filled, and their weight
pub record IsFilled (ds : List Delta) (load : ℕ) : Type 0 where
  pub limits : deltas_fit ds ≡ true
  pub heavy : load ≡ sum_by weight ds
  pub open_to : IsOpen ds

-- an empty message takes any delta
abbrev pub has_place : List Delta → Delta → Bool
has_place [] d = true
has_place (e ∷ ds) d = takes (e ∷ ds) d
