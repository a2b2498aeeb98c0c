-- A right names no token of one thread.
use Rattle.std.proofs.Common.{ℕ, List}
use Rattle.std.specs.Prelude.{Option, None, Some}
use base.Shift.{Keyless}
use types.Keyed.{entry_keyless}
use denote.Param.Send.{IsSend}
use Rattle.logbook.specs.Kept.{halved}
use Rattle.ty_account.specs.contracts.right.Right.{the_row}
use Rattle.ty_account.specs.steps.Rights.{number_of, right_owns}

calm : (names : List ℕ) (held : Option ℕ) → Keyless (right_owns names held)
calm names None = tt
calm names (Some n) = entry_keyless halved (number_of names) 0 _

pub send : IsSend the_row
send = record { owned = λ d vs. ((λ vss. (tt, ((λ uss. (tt, tt)), tt))), calm d.names d.held); leaving = λ k f vs. tt }
