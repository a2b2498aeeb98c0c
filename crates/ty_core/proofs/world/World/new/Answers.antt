use Rattle.std.proofs.Common.{refl}
use Rattle.ty_core.proofs.Happenings.{began}
use Rattle.ty_core.proofs.world.World.new.Goals as goal

pub returns : goal.returns
returns c = began _ refl refl c.in_ok-new.ensures
