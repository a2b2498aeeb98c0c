-- What running a script comes to, without the world that it was run in.
use Rattle.std.proofs.Common.{refl, sym, true≢false, []}
use Rattle.ty_base.specs.Devices.{Seen}
use Rattle.ty_base.proofs.Known.{Consumes-same, Appends-same}
use Rattle.ty_intake.specs.Lines.{no_feed}
use Rattle.ty_core.specs.Held.{WorldHeld}
use Rattle.ty_core.specs.Script.{simulated}
use Rattle.ty_core.specs.Simulated.{Simulated, SimStopped}
use Rattle.ty_core.specs.declared.simulation.SimFault.{SimFault}
use Rattle.ty_core.specs.declared.simulation.SimFault.TheVariants as sim
use Rattle.ty_top.specs.Endings.{Sims}
use Rattle.ty_top.specs.declared.ending.SimEnd.TheVariants as sim_end

pub done : (world : WorldHeld) (old new : Seen) → Simulated world old new → Sims sim_end.Done old new
done world old new s = (s.read, s.taken, s.ended, s.good, s.written)

pub stopped : (f : SimFault) (world : WorldHeld) (old new : Seen) → SimStopped world old new f → Sims (sim_end.Stopped f) old new
stopped sim.Read world old new s = (s.0, s.1, s.2, s.3, s.4, s.6)
stopped sim.Write world old new s = (s.0, s.3, s.4, s.7)
stopped sim.NoMemory world old new s = s
stopped (sim.Event n) world old new s = s
stopped (sim.Feed n f) world old new s = s
stopped (sim.LongLine n) world old new s = s
stopped sim.TooMuch world old new s = s

-- there is no memory for a world
pub no_world : (old : Seen) → Sims (sim_end.Stopped sim.NoMemory) old old
no_world old = (
  no_feed,
  record { bytes = Consumes-same old.source.left; end = λ e. absurd (true≢false (sym e)) },
  ([], simulated no_feed, refl, Appends-same old.sink.held),
)
