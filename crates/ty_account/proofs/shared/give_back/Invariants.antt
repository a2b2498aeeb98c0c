use Rattle.std.proofs.Common.{◌≡◌, length}
use Rattle.ty_account.specs.steps.Histories.{IsRow}
use Rattle.ty_account.proofs.shared.give_back.Given as goal

-- so many nodes are left, in a row from this address
abbrev pub invariant-loop-left : goal.invariant-loop-left
invariant-loop-left g l = (l.left ≡ length l.freed.lots) × IsRow l.at l.freed.lots

abbrev pub decreases-loop-left : goal.decreases-loop-left
decreases-loop-left g l = l.left
