-- For private clauses: what a body is.
use Rattle.std.specs.Prelude.{List, ℕ}
use Rattle.ty_wire.specs.Wire.{IsJson, Spells}
use Rattle.ty_wire.specs.declared.message.Msg.{Msg}
use Rattle.ty_wire.specs.declared.decode.Body.{Body}
use Rattle.ty_wire.specs.declared.decode.Body.TheVariants.{Message, NotJson, Shape}

abbrev pub IsBody : List ℕ → Body → Type 0
IsBody bytes (Message m) = Spells bytes m
IsBody bytes NotJson = ¬ (IsJson bytes)
IsBody bytes Shape = IsJson bytes × ((m : Msg) → ¬ (Spells bytes m))
