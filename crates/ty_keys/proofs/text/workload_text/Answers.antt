use Rattle.ty_keys.specs.Grammar.{key_text}
use Rattle.ty_keys.proofs.text.workload_text.Goals as goal

pub returns : goal.returns
unfolding key_text
returns c = c.joined.ensures
