use Rattle.std.proofs.Common.{subst}
use Rattle.serde_json.specs.View.{view}
use Rattle.ty_rules.specs.Checks.{Tells}
use Rattle.ty_values.proofs.Rows.{side_rows}
use Rattle.ty_values.proofs.policy_rules.SideSelectorsCheck.check.Goals as goal

pub returns : goal.returns
returns c = subst (λ o. Tells c.check.result o) (side_rows (view c.args.value.now)) c.check.ensures
