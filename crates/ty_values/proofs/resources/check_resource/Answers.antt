use Rattle.std.proofs.Common.{subst}
use Rattle.serde_json.specs.View.{view}
use Rattle.ty_rules.specs.Checks.{Tells}
use Rattle.ty_values.specs.Keys.{resource}
use Rattle.ty_values.proofs.resources.check_resource.Goals as goal

pub returns : goal.returns
returns c =
    let d = view c.args.value.now in
    let namespace = c.args.namespace.now in
    subst (λ k. Tells c.check_kind.result (resource k namespace c.args.name.now d)) c.kind_name.ensures
    (subst (λ n. Tells c.check_kind.result (resource c.kind_name.result.now namespace n d)) c.as_str.ensures c.check_kind.ensures)
