use Rattle.std.proofs.Common.{ap, length, ℕ}
use Rattle.ty_core.proofs.Hearing.{heard_is, too_much_heard}
use Rattle.ty_core.proofs.slot.hear_all.Goals as goal

pub returns-in-Ok-clause-heard : goal.returns-in-Ok-clause-heard
returns-in-Ok-clause-heard c = λ es k before texts few l.
    heard_is es k c.args.rebuild.now c.up_given.new.self c.args.session.now c.hear.new.self before c.args.now c.in-Ok.count _ c.up.result.now texts few l c.up.ensures c.in-Ok.ensures.hears c.up_given.ensures (ap (length {A = ℕ}) c.up-len.ensures)

pub returns-in-Err-Left-clause-fault : goal.returns-in-Err-Left-clause-fault
returns-in-Err-Left-clause-fault c = λ es k before texts few l.
    too_much_heard es k c.args.rebuild.now c.args.session.now before c.up.result.now c.in-Err-Left.field-0-0 texts few l c.up.ensures (rw c.in-Err-Left.field-0-is at c.in-Err-Left.ensures.shows)
