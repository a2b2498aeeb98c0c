use Rattle.std.proofs.Common.{◌+◌, refl, sym, ◌∙◌}
use Rattle.ty_core.proofs.Stepping.{steps_idle, steps_on, told_on, steps_off, told_off}
use Rattle.ty_core.proofs.slot.step_link.Goals as goal

pub returns-then-number-newest-clause-link : goal.returns-then-number-newest-clause-link
returns-then-number-newest-clause-link c = λ rb t k a l.
    steps_idle t c.args.now c.args.c rb k c.args.chain.now.crumbs.items a c.args.session.now l (sym c.is_joined.ensures ∙ c.if-not-is_joined.false) c.newest.result c.newest.ensures c.idle.new.self c.number-number.result c.number-number.ensures c.if-number-newest.true c.in_ok-idle.ensures.idles

pub returns-in-Ok-clause-link : goal.returns-in-Ok-clause-link
returns-in-Ok-clause-link c = λ rb t k a l.
    steps_on t c.args.now c.args.c rb k c.args.chain.now.crumbs.items a c.args.session.now l (sym c.is_joined.ensures ∙ c.if-not-is_joined.false) c.newest.result c.newest.ensures c.number-number.result (c.number-number.result + 1) c.number-number.ensures c.if-number-newest.false refl c.crumb-crumb.result.now c.crumb-crumb.ensures
    c.offer.new.self c.in-Ok.ensures.ok c.in-Ok.ensures.goes_on

pub returns-in-Ok-clause-told : goal.returns-in-Ok-clause-told
returns-in-Ok-clause-told c = λ rb t k a l.
    told_on t c.args.now c.args.c rb k c.args.chain.now.crumbs.items a c.args.session.now l (sym c.is_joined.ensures ∙ c.if-not-is_joined.false) c.newest.result c.newest.ensures c.number-number.result (c.number-number.result + 1) c.number-number.ensures c.if-number-newest.false refl c.crumb-crumb.result.now c.crumb-crumb.ensures
    c.in-Ok.ensures.ok

pub returns-in-Err-Left-clause-link : goal.returns-in-Err-Left-clause-link
returns-in-Err-Left-clause-link c = λ rb t k a l.
    steps_off t c.args.now c.args.c rb k c.args.chain.now.crumbs.items a c.args.session.now l (sym c.is_joined.ensures ∙ c.if-not-is_joined.false) c.newest.result c.newest.ensures c.number-number.result (c.number-number.result + 1) c.number-number.ensures c.if-number-newest.false refl c.crumb-crumb.result.now c.crumb-crumb.ensures
    c.offer.new.self c.in-Err-Left.field-0-0 (rw c.in-Err-Left.field-0-is at c.in-Err-Left.ensures.left) (rw c.in-Err-Left.field-0-is at c.in-Err-Left.ensures.leaves)

pub returns-in-Err-Left-clause-told : goal.returns-in-Err-Left-clause-told
returns-in-Err-Left-clause-told c = λ rb t k a l.
    told_off t c.args.now c.args.c rb k c.args.chain.now.crumbs.items a c.args.session.now l (sym c.is_joined.ensures ∙ c.if-not-is_joined.false) c.newest.result c.newest.ensures c.number-number.result (c.number-number.result + 1) c.number-number.ensures c.if-number-newest.false refl c.crumb-crumb.result.now c.crumb-crumb.ensures
    c.in-Err-Left.field-0-0 (rw c.in-Err-Left.field-0-is at c.in-Err-Left.ensures.left)
