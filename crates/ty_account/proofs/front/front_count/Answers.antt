use Rattle.std.proofs.Common.{ap, ◌∙◌, length, ◌/◌}
use Rattle.ty_account.proofs.Histories.{word_half}
use Rattle.ty_account.proofs.front.front_count.Goals as goal

pub returns : goal.returns
returns g c = ap (λ n. n / 2) c.front.invariant.0 ∙ (word_half c.front.inside.seen.log ∙ ap (λ k. length k.entries) c.front.view_is)
