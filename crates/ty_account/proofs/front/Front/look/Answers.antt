use Rattle.std.proofs.Common.{ap, ◌∙◌, nat_eq, length, ◌/◌, ◌%◌}
use Rattle.ty_account.proofs.Histories.{word_half, word_odd}
use Rattle.ty_account.proofs.front.Front.look.Goals as goal

pub returns-clause-count : goal.returns-clause-count
returns-clause-count g c = ap (λ n. n / 2) c.self.invariant.0 ∙ (word_half c.self.inside.seen.log ∙ ap (λ k. length k.entries) c.self.view_is)

pub returns-clause-closed : goal.returns-clause-closed
returns-clause-closed g c = ap (λ n. nat_eq (n % 2) 1) c.self.invariant.0 ∙ (word_odd c.self.inside.seen.log ∙ ap (λ k. k.closed) c.self.view_is)
