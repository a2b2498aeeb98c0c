use Rattle.std.proofs.Common.{arith, sym, ap}
use lib.Count.{count_trailing_zeros}
use Rattle.ty_wire.proofs.Escapes.{run-all, run-some}
use Rattle.ty_wire.proofs.quoted.plain_len.Goals as goal

pub returns-then-found-eq0-clause-plain : goal.returns-then-found-eq0-clause-plain
returns-then-found-eq0-clause-plain c = run-all c.args.text.now 16 (omega arith) (omega (arith, c.stops-found.ensures))

pub returns-clause-within : goal.returns-clause-within
returns-clause-within c = let run = run-some c.args.text.now 16 (omega arith) (omega arith) (omega (arith, c.stops-found.ensures)) in let same = ap (count_trailing_zeros 64) (sym c.stops-found.ensures) in omega (arith, run.0, run.1, same)

pub returns-clause-few : goal.returns-clause-few
returns-clause-few c = let run = run-some c.args.text.now 16 (omega arith) (omega arith) (omega (arith, c.stops-found.ensures)) in let same = ap (count_trailing_zeros 64) (sym c.stops-found.ensures) in omega (arith, run.0, run.1, same)

pub returns-clause-plain : goal.returns-clause-plain
returns-clause-plain c = let run = run-some c.args.text.now 16 (omega arith) (omega arith) (omega (arith, c.stops-found.ensures)) in let same = ap (count_trailing_zeros 64) (sym c.stops-found.ensures) in omega (arith, run.0, run.1, same)
