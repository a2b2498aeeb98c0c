use Rattle.std.proofs.lemmas.Result.{IfOk-weaker}
use Rattle.ty_core.proofs.Answered.{fault_weaker}
use Rattle.ty_core.proofs.Hearing.{hears_some, good_some, too_much_some}
use Rattle.ty_core.proofs.slot.hear.Goals as goal

pub returns-in-Some-clause-ok : goal.returns-in-Some-clause-ok
returns-in-Some-clause-ok c =
    IfOk-weaker c.hear_link.result _ _ (λ told h. λ t k a st. hears_some c.args.slot.now c.in-Some.session c.hear_link.new.session c.hear_link.new.rebuild t.entries k c.args.c c.args.now told.items c.in-Some.is c.hear_link.ensures.held (λ x l. h t x a l) st) c.hear_link.ensures.ok

pub returns-in-Some-clause-good : goal.returns-in-Some-clause-good
returns-in-Some-clause-good c =
    IfOk-weaker c.hear_link.result _ _ (λ told h. λ t k a st. good_some c.args.slot.now c.in-Some.session c.hear_link.new.session c.hear_link.new.rebuild t.entries k c.args.c c.args.now told.items c.in-Some.is (λ x l. h t x a l) st) c.hear_link.ensures.ok

pub returns-in-Some-clause-fault : goal.returns-in-Some-clause-fault
returns-in-Some-clause-fault c =
    fault_weaker c.hear_link.result _ _ (λ f h. λ t k a st. too_much_some c.args.slot.now c.in-Some.session t.entries k f c.in-Some.is (λ x l. h t x a l) st) c.hear_link.ensures.fault
