use Rattle.std.proofs.Common.{rules}
use Rattle.ty_wire.proofs.Members.{is_with}
use Rattle.ty_wire.proofs.decode.delta_from.Goals as goal

pub returns-in_ok-key-in-Deleted-None : goal.returns-in_ok-key-in-Deleted-None
returns-in_ok-key-in-Deleted-None c = is_with _ _ _ c.in_ok-key-in-Deleted-None.ensures (search rules)

pub returns-in_ok-of-in-New-Some : goal.returns-in_ok-of-in-New-Some
returns-in_ok-of-in-New-Some c = is_with _ _ _ c.in_ok-key-in-New-Some.ensures (search rules)
