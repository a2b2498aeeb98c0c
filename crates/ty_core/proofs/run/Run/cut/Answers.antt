use Rattle.std.proofs.Common.{refl}
use Rattle.std.proofs.lemmas.Result.{IfOk-weaker}
use Rattle.ty_core.proofs.Runs.{moves_cut}
use Rattle.ty_core.proofs.run.Run.cut.Goals as goal

pub returns : goal.returns
returns c =
    IfOk-weaker c.cut.result _ _ (λ told h. λ s st. moves_cut c.args.self.now _ s c.args.c c.index_mut-slot.result.now c.cut.new.slot told.items st c.requires.event refl refl refl c.index_mut-slot.ensures.value h) c.cut.ensures
