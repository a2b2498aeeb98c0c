use Rattle.std.proofs.Common.{rules, ◌∙◌, [], refl, ap, sym, subst}
use Rattle.std.specs.Prelude.{Option}
use Rattle.ty_account.specs.declared.node.Node.{Node}
use Rattle.ty_account.specs.declared.node.Place.{Place}
use Rattle.ty_account.specs.steps.Histories.{HasItem, Stands}
use Rattle.ty_account.proofs.Chains.{chain_opened}
use Rattle.ty_account.proofs.Rights.{kept_calm}
use Rattle.ty_account.proofs.account.Account.start.Goals as goal

pub open_row-seen-requires : goal.open_row-seen-requires
open_row-seen-requires g c =
    let first = ap (λ (z : Place g.row.T.Denot). z.node) (c.lend-known.ensures.known.2 ∙ (c.of-block.ensures.1 ∙ c.in_ok-new-2.ensures.ok)) in
    let stands = subst (λ (z : Option (Node g.row.T.Denot)). Stands g.T.Standing.stands z []) (sym first) c.requires in
    (record { words = refl; legal = refl; chain = chain_opened g.T.Standing.stands c.lend-known.result.0.at c.lend-known.result.0.value stands }, (λ h. kept_calm _ c.type_bounds.send-T c.type_bounds.sync-T c.begin-start.result.0.names h), c.begin-start.ensures.0)

pub returns-clause-spot : goal.returns-clause-spot
returns-clause-spot g c =
    let first = ap (λ (z : Place g.row.T.Denot). z.node) (c.lend-known.ensures.known.2 ∙ (c.of-block.ensures.1 ∙ c.in_ok-new-2.ensures.ok)) in
    let has : HasItem c.lend-known.result.0.value.node c.args.first = subst (λ (z : Option (Node g.row.T.Denot)). HasItem z c.args.first) (sym first) refl in
    let at = c.begun-2.ensures c.args.first has in
    search rules
