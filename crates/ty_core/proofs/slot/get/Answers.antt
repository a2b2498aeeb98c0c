use Rattle.std.proofs.lemmas.Result.{IfOk-weaker}
use Rattle.ty_core.proofs.Answered.{fault_weaker}
use Rattle.ty_core.proofs.Getting.{gets_some, too_much_some}
use Rattle.ty_core.proofs.slot.get.Goals as goal

pub returns-in-Some-clause-ok : goal.returns-in-Some-clause-ok
returns-in-Some-clause-ok c =
    IfOk-weaker c.get_link.result _ _ (λ told h. λ es k texts few st. gets_some c.args.slot.now c.in-Some.session c.get_link.new.session c.get_link.new.rebuild es k c.args.n c.args.c told.items c.in-Some.is (λ x held l at. h es x held texts few l at) st) c.get_link.ensures.ok

pub returns-in-Some-clause-fault : goal.returns-in-Some-clause-fault
returns-in-Some-clause-fault c =
    fault_weaker c.get_link.result _ _ (λ f h. λ es k texts few st. too_much_some c.args.slot.now c.in-Some.session es k c.args.n f c.in-Some.is (λ x l. h es x texts few l) st) c.get_link.ensures.fault
