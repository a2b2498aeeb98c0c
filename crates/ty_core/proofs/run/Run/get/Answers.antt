use Rattle.std.proofs.Common.{refl}
use Rattle.std.proofs.lemmas.Result.{IfOk-weaker}
use Rattle.ty_core.proofs.Answered.{fault_weaker}
use Rattle.ty_core.proofs.Runs.{moves_get, faults_get}
use Rattle.ty_core.proofs.run.Run.get.Goals as goal

pub returns-clause-moves : goal.returns-clause-moves
returns-clause-moves c =
    IfOk-weaker c.get.result _ _ (λ told h. λ s st. moves_get c.args.self.now _ s c.args.c c.args.n c.index_mut-slot.result.now c.get.new.slot told.items st c.requires.event refl refl refl c.index_mut-slot.ensures.value h) c.get.ensures.ok

pub returns-clause-fault : goal.returns-clause-fault
returns-clause-fault c =
    fault_weaker c.get.result _ _ (λ f h. λ s st. faults_get c.args.self.now s c.args.c c.args.n c.index_mut-slot.result.now f st c.requires.event c.index_mut-slot.ensures.value h) c.get.ensures.fault
