use Rattle.std.proofs.Common.{refl}
use Rattle.ty_core.proofs.Answered.{ok_weaker, fault_weaker}
use Rattle.ty_core.proofs.Runs.{moves_hear, faults_hear}
use Rattle.ty_core.proofs.run.Run.hear.Goals as goal

pub returns-clause-moves : goal.returns-clause-moves
returns-clause-moves c =
    ok_weaker c.hear.result _ _ _ (λ told h good. λ s st. moves_hear c.args.self.now _ s c.args.c c.index_mut-slot.result.now c.hear.new.slot told.items st c.requires.event refl refl refl c.index_mut-slot.ensures.value h good) c.hear.ensures.ok c.hear.ensures.good

pub returns-clause-fault : goal.returns-clause-fault
returns-clause-fault c =
    fault_weaker c.hear.result _ _ (λ f h. λ s st. faults_hear c.args.self.now s c.args.c c.index_mut-slot.result.now f st c.requires.event c.index_mut-slot.ensures.value h) c.hear.ensures.fault
