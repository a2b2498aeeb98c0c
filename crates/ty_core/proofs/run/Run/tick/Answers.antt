use Rattle.std.proofs.Common.{refl}
use Rattle.std.proofs.lemmas.Result.{IfOk-weaker}
use Rattle.ty_core.proofs.Runs.{moves_tick}
use Rattle.ty_core.proofs.run.Run.tick.Goals as goal

pub returns : goal.returns
returns c = IfOk-weaker c.tick_all.result _ _ (λ told h. λ s st. moves_tick c.args.self.now _ s c.args.ms told.items st refl refl h) c.tick_all.ensures.ticks
