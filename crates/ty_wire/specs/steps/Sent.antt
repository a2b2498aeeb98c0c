-- For private clauses: what has been written of a list of deltas.
use Rattle.std.specs.Prelude.{◌≡◌, ℕ, List, ◌++◌}
use Rattle.std.specs.List.{AllByRecursion}
use Rattle.ty_base.specs.declared.delta.Delta.{Delta}
use Rattle.ty_wire.specs.Wire.{IsWire, frames}
use Rattle.ty_wire.specs.Talk.{kvs_messages}
use Rattle.ty_wire.specs.declared.message.Msg.{Msg}

-- these bytes are those from before and the frames of messages
pub record Appends (before now : List ℕ) (written : List Msg) : Type 0 where
  pub bytes : now ≡ before ++ frames written
  pub wire : AllByRecursion IsWire written

-- some messages of these deltas are written, and those of the rest are not
pub record IsSent (deltas rest : List Delta) (before now : List ℕ) : Type 0 where
  pub written : List Msg
  pub appends : Appends before now written
  pub cut : kvs_messages deltas ≡ written ++ kvs_messages rest
