use denote.RattleType.{RattleType}
use denote.Param.Send.{IsSend, IsSync}
use Rattle.ty_account.specs.contracts.hoard.Known.{the_row}
use Rattle.ty_account.proofs.Crossing.{lent_keyless}

pub send : (T : RattleType) → IsSync T → IsSend (the_row T)
send T y = record { owned = λ d vs. ((λ vss. (tt, ((λ uss. (tt, tt)), tt))), lent_keyless T y d.life d.at d.value); leaving = λ k f vs. tt }
