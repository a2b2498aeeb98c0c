-- For private clauses: the first message of a list of deltas.
use Rattle.std.specs.Prelude.{◌≡◌, ℕ, ◌<◌, ◌≤◌, List, ◌∷◌, ◌++◌, length, take, drop}
use Rattle.std.specs.Int.{to_be_bytes, w32}
use Rattle.ty_base.specs.declared.delta.Delta.{Delta}
use Rattle.ty_wire.specs.Cut.{cut_deltas}
use Rattle.ty_group.specs.declared.mark.Front.{Front}
use Rattle.ty_group.specs.steps.Pieces.{delta_pieces}

-- a body behind its length
abbrev pub framed : List ℕ → List ℕ
framed body = to_be_bytes w32 (length body) ++ body

-- the deltas of the first message
pub record IsFront (ds : List Delta) (front : Front) : Type 0 where
  pub some : 0 < front.count
  pub within : front.count ≤ length ds
  pub len : front.len ≡ length (delta_pieces (take front.count ds))
  pub cut : cut_deltas ds ≡ take front.count ds ∷ cut_deltas (drop front.count ds)
