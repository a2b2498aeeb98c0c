use Rattle.std.proofs.Common.{refl}
use Rattle.std.proofs.lemmas.Result.{IfOk-weaker}
use Rattle.ty_core.proofs.Runs.{moves_step}
use Rattle.ty_core.proofs.run.Run.step.Goals as goal

pub returns : goal.returns
returns c =
    IfOk-weaker c.step.result _ _ (λ told h. λ s st. moves_step c.args.self.now _ s c.args.c c.index_mut-slot.result.now c.step.new.slot told.items st c.requires.event refl refl refl c.index_mut-slot.ensures.value h) c.step.ensures
