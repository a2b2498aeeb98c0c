use Rattle.ty_base.specs.Devices.{seen}
use Rattle.ty_top.proofs.Simulations.{no_world}
use Rattle.ty_top.proofs.sim.sim_source.Goals as goal

pub returns-in_default-clause-sims : goal.returns-in_default-clause-sims
returns-in_default-clause-sims g c = no_world (seen (g.S.Source.seen c.args.source.now) (g.K.Sink.seen c.args.sink.now))
