use Rattle.std.proofs.Common.{subst, sym}
use Rattle.serde_json.specs.View.{view}
use Rattle.ty_rules.specs.Checks.{Tells}
use Rattle.ty_values.specs.Keys.{of_key}
use Rattle.ty_values.proofs.keys.check_form.Goals as goal

pub returns-in-Pool : goal.returns-in-Pool
returns-in-Pool c = subst (λ k. Tells c.check_pool.result (of_key k (view c.args.value.now))) (sym c.in-Pool.is) c.check_pool.ensures

pub returns-in-Resource : goal.returns-in-Resource
returns-in-Resource c = subst (λ k. Tells c.check_resource.result (of_key k (view c.args.value.now))) (sym c.in-Resource.is) c.check_resource.ensures
