use denote.RattleType.{RattleType}
use denote.Param.Send.{IsSync, sendable}
use denote.Struct.Struct.{Struct}
use denote.Struct.Owning.{shape}
use Rattle.ty_account.specs.contracts.hoard.Known.{the_row, the_type}
use Rattle.ty_account.proofs.Crossing.{lent_keyless}

pub sync : (T : RattleType) → IsSync T → IsSync (the_row T)
sync T y = let fields : IsSync (Struct (shape (the_type T))) = search sendable depth 20 in record { shared = λ d b o κ. (fields.shared (tt, tt) b o κ, lent_keyless T y d.life d.at d.value) }
