use Rattle.std.proofs.Common.{refl}
use Rattle.ty_base.specs.declared.status.Status.TheVariants.{Wait}
use Rattle.ty_base.specs.Feed.{replay}
use Rattle.ty_map.specs.Shape.{pairs}
use Rattle.ty_crumb.proofs.crumb.Crumb.first.Goals as goal

pub returns-clause-stands : goal.returns-clause-stands
unfolding replay
returns-clause-stands c = record {
  number = refl;
  cut = refl;
  deltas = c.new.ensures;
  world = λ i. record { pairs = pairs (c.empty.ensures i); status = Wait };
}
