-- The last right names no token of one thread.
use types.Keyed.{entry_keyless}
use denote.Param.Send.{IsSend}
use Rattle.logbook.specs.Kept.{halved}
use Rattle.ty_account.specs.contracts.last.Last.{the_row}
use Rattle.ty_account.specs.steps.Rights.{number_of}

pub send : IsSend the_row
send = record { owned = λ d vs. ((λ vss. (tt, ((λ uss. (tt, tt)), tt))), entry_keyless halved (number_of d.names) 1 _); leaving = λ k f vs. tt }
