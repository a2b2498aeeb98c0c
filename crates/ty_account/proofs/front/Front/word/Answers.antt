use Rattle.std.proofs.Common.{ap, ◌∙◌}
use Rattle.ty_account.specs.steps.Histories.{word_for}
use Rattle.ty_account.proofs.Histories.{word_is}
use Rattle.ty_account.proofs.front.Front.word.Goals as goal

pub returns : goal.returns
returns g c = c.self.invariant.0 ∙ (word_is c.self.inside.seen.log ∙ ap word_for c.self.view_is)
