use Rattle.std.proofs.Common.{rules, sym, ◌∙◌}
use Rattle.std.proofs.lemmas.Iterator.{YieldsList-from_slice}
use Rattle.std.proofs.lemmas.Iterator.Search.{all_from_yields_List}
use Rattle.serde_json.specs.View.{view}
use Rattle.ty_rules.proofs.Lists.{list_all-items}
use Rattle.ty_rules.proofs.test.all_pass.Goals as goal

pub returns : goal.returns
returns g c =
    let p = g.T.Test.holds c.args.test.now in
    let run = all_from_yields_List (λ v. p (view v)) _ _ _ c.all.ensures.ran (YieldsList-from_slice c.args.list.now.items cc) (λ x b q k. search rules) in
    run ∙ sym (list_all-items p c.args.list.now.items)
