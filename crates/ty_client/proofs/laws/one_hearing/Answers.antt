use Rattle.std.specs.Prelude.{None}
use Rattle.ty_client.proofs.Once.{once, short, held_once, fronts, heard_some}
use Rattle.ty_client.proofs.laws.one_hearing.Goals as goal

pub returns : goal.returns
returns c = record { bytes = once; some = heard_some; fronts = fronts; short = short; connections = held_once None }
