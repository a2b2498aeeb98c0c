use Rattle.ty_core.proofs.Answered.{feed_weaker}
use Rattle.ty_core.proofs.slot.hear_link.Goals as goal

pub returns-in_ok-welcome-in-Ok-clause-ok : goal.returns-in_ok-welcome-in-Ok-clause-ok
returns-in_ok-welcome-in-Ok-clause-ok c = λ t k a l.
    c.in_ok-welcome-in-Ok.ensures c.hear_all.new.rebuild t k l.0 a (c.in-Ok.ensures.heard t.entries k l.0 a.texts a.few l.1)

pub returns-in-Err-clause-fault : goal.returns-in-Err-clause-fault
returns-in-Err-clause-fault c = feed_weaker c.in-Err.fault _ _ (λ f h. λ t k a l. h t.entries k l.0 a.texts a.few l.1) c.in-Err.ensures.fault
