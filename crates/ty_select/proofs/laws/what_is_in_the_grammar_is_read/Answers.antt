use Rattle.ty_select.proofs.Expressions.{what_is_said_is_read}
use Rattle.ty_select.proofs.laws.what_is_in_the_grammar_is_read.Goals as goal

pub returns : goal.returns
returns c = what_is_said_is_read
