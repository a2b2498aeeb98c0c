use Rattle.ty_select.proofs.Grammar.{what_is_read_is_said}
use Rattle.ty_select.proofs.laws.what_is_read_is_in_the_grammar.Goals as goal

pub returns : goal.returns
returns c = what_is_read_is_said
