use Rattle.serde_json.specs.View.{view}
use Rattle.ty_values.proofs.OtherKinds.{no_rules}
use Rattle.ty_values.proofs.kinds.SpecOfCheck.check.Goals as goal

pub returns-in_default : goal.returns-in_default
returns-in_default c =
    let o = c.in_default in
    no_rules c.args.self.now.0.now (view c.args.spec.now) o.not-NetworkPolicy o.not-GlobalNetworkPolicy o.not-Profile o.not-NetworkSet
    o.not-GlobalNetworkSet o.not-HostEndpoint o.not-IPPool o.not-Tier
