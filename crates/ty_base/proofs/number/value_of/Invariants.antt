use Rattle.std.proofs.Common.{◌≡◌, ◌<◌, ◌^◌, drop}
use Rattle.ty_base.proofs.Digits.{owed}
use Rattle.ty_base.proofs.number.value_of.Given as goal

abbrev pub invariant-loop-digit : goal.invariant-loop-digit
invariant-loop-digit l = record {
  within : l.n < 2 ^ 64;
  rest : owed l.n (drop l.digit-index l.text) ≡ owed 0 l.text;
}
