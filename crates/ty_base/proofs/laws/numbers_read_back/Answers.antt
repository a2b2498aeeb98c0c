use Rattle.ty_base.proofs.Digits.{read_decimal, decimal_of_read}
use Rattle.ty_base.proofs.laws.numbers_read_back.Goals as goal

pub returns : goal.returns
returns c = record { back = read_decimal; only = decimal_of_read }
