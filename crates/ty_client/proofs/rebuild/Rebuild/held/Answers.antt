use Rattle.ty_client.proofs.Connections.{holds_all}
use Rattle.ty_client.proofs.rebuild.Rebuild.held.Goals as goal

pub returns-clause-holds : goal.returns-clause-holds
returns-clause-holds c = holds_all c.args.self.now
