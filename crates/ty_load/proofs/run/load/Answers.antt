use Rattle.std.proofs.Common.{[], ◌∙◌}
use Rattle.std.proofs.lemmas.Result.{IfOk-weaker}
use Rattle.ty_load.proofs.Summaries.{stands_new, tells_all, tells_none}
use Rattle.ty_load.proofs.run.load.Goals as goal

pub returns-in-Ok : goal.returns-in-Ok
returns-in-Ok c =
    IfOk-weaker c.tell.result _ _ (λ text h. tells_all c.args.number c.play.new.world text (c.in-Ok.ensures [] (stands_new c.in_ok-world.world c.in_ok-world.ensures)) h) c.tell.ensures

pub returns-in-Err-Feed : goal.returns-in-Err-Feed
returns-in-Err-Feed c =
    IfOk-weaker c.of.result _ _ (λ text h. h ∙ tells_none c.args.number c.in_ok-world.world _ (λ g. g) c.in_ok-world.ensures (rw c.in-Err-Feed.field-0-is at c.in-Err-Feed.ensures)) c.of.ensures
