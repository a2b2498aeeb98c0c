use Rattle.ty_core.proofs.Stepping.{ticks_on, ticks_off}
use Rattle.ty_core.proofs.slot.tick_link.Goals as goal

pub returns-in-Ok-clause-link : goal.returns-in-Ok-clause-link
returns-in-Ok-clause-link c = λ rb es k l. ticks_on c.args.now c.args.c rb c.args.session.now es k l c.tick.new.self c.in-Ok.ensures.ok c.in-Ok.ensures.goes_on

pub returns-in-Err-Left-clause-link : goal.returns-in-Err-Left-clause-link
returns-in-Err-Left-clause-link c = λ rb es k l.
    ticks_off c.args.now c.args.c rb c.args.session.now es k l c.tick.new.self c.in-Err-Left.reason (rw c.in-Err-Left.field-0-is at c.in-Err-Left.ensures.left) (rw c.in-Err-Left.field-0-is at c.in-Err-Left.ensures.leaves)
