use Rattle.std.proofs.Common.{subst}
use Rattle.serde_json.specs.View.{view}
use Rattle.ty_rules.specs.declared.rule.Rule.TheVariants as R
use Rattle.ty_rules.specs.Checks.{Tells}
use Rattle.ty_values.specs.PolicyRules.{side_selectors}
use Rattle.ty_values.proofs.Rows.{rows_of_sides}
use Rattle.ty_values.proofs.policy_rules.V3SelectorsCheck.check.Goals as goal

pub returns : goal.returns
returns c = subst (λ o. Tells c.check.result o) (rows_of_sides R.Selector side_selectors (view c.args.value.now)) c.check.ensures
