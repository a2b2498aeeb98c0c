use Rattle.std.proofs.Common.{sym, ◌∙◌}
use Rattle.ty_wire.proofs.Read.{one_message, is_json}
use Rattle.ty_wire.proofs.Utf8.{is_wire}
use Rattle.ty_wire.proofs.laws.one_spelling.Goals as goal

pub returns : goal.returns
returns c = record { message = one_message; bytes = λ x y m s t. s.same ∙ sym t.same; json = is_json; utf8 = is_wire }
