use Rattle.std.proofs.Common.{List, ◌++◌, ◌∷◌, [], ap, ◌∙◌}
use Rattle.ty_crumb.specs.declared.crumb.Crumb.{Crumb}
use Rattle.ty_core.proofs.Chains.{began}
use Rattle.ty_core.proofs.chain.Chain.new.Goals as goal

pub returns : goal.returns
returns c =
    began _ c.first.result (c.in_ok-push.ensures.items ∙ ap (λ (l : List Crumb). l ++ c.first.result ∷ []) c.new-crumbs.ensures.items) c.first.ensures.stands c.first.ensures.at c.new.ensures
