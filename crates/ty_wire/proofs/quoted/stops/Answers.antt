use Rattle.ty_wire.proofs.Escapes.{stop-mask}
use Rattle.ty_wire.proofs.quoted.stops.Goals as goal

pub returns : goal.returns
returns c = stop-mask c.args.lanes c.fits-lanes.0
