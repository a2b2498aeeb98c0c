use Rattle.std.proofs.Common.{◌≡◌}
use Rattle.ty_account.proofs.tests.enter.Given as goal

-- the pen stays one of its account
abbrev pub invariant-loop : goal.invariant-loop
invariant-loop l = l.pen.account ≡ l.initial.pen.account
