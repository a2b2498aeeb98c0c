use Rattle.std.proofs.Common.{◌≡◌}
use Rattle.ty_account.proofs.tests.walk.Given as goal

-- the spot and the front stay of one account
abbrev pub invariant-loop : goal.invariant-loop
invariant-loop g l = l.spot.account ≡ l.front.account
