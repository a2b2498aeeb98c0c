use Rattle.std.proofs.Common.{refl, []}
use Rattle.ty_client.proofs.Connections.{begins}
use Rattle.ty_client.proofs.rebuild.Rebuild.new.Goals as goal

pub returns-clause-stands : goal.returns-clause-stands
returns-clause-stands c = begins _ [] refl refl c.new.ensures.fault c.new.ensures.stands c.new-2.ensures refl
