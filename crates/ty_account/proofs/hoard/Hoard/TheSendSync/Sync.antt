use denote.Param.Send.{IsSync, sendable}
use denote.Struct.Struct.{Struct}
use denote.Struct.Owning.{shape}
use Rattle.core.proofs.atomic.Sent.{chain-Keyless}
use Rattle.std.proofs.Common.{[], ◌∷◌}
use Rattle.ty_account.specs.contracts.hoard.Hoard.{the_row, the_type}

pub sync : IsSync the_row
sync = let fields : IsSync (Struct (shape the_type)) = search sendable depth 20 in record { shared = λ d b o κ. (fields.shared (tt, tt) b o κ, λ νs. chain-Keyless νs κ (d.life ∷ [])) }
