use Rattle.std.proofs.Common.{refl, sym}
use Rattle.std.proofs.lemmas.Result.{IfOk-weaker}
use Rattle.ty_core.proofs.Runs.{moves_line}
use Rattle.ty_core.proofs.run.Run.line.Goals as goal

pub returns-clause-moves : goal.returns-clause-moves
returns-clause-moves c =
    IfOk-weaker c.line.result _ _ (λ told h. λ s st. moves_line c.args.self.now _ s c.args.line.now told.items st (h s st.chain (sym st.now)) refl refl) c.line.ensures.moved
