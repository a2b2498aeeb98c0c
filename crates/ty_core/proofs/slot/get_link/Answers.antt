use Rattle.std.proofs.Common.{sym, ap, ◌∙◌}
use Rattle.std.specs.Prelude.{Option}
use Rattle.ty_client.specs.Rebuilt.{Rebuilt}
use Rattle.ty_core.specs.steps.Slots.{ends_or_still}
use Rattle.ty_core.proofs.Getting.{gets, too_much_got}
use Rattle.ty_core.proofs.slot.get_link.Goals as goal

pub returns-then-is_some-clause-fault : goal.returns-then-is_some-clause-fault
returns-then-is_some-clause-fault c = λ es k texts few l.
    too_much_got c.args.rebuild.now c.deliver.new.rebuild c.args.session.now c.deliver.new.session es k c.args.n c.in_ok-heard.heard.ats c.in_ok-heard.heard.fault l (λ before x short. c.in_ok-heard.ensures.short es k before texts few x short) (sym c.is_some.ensures ∙ c.if-is_some.true)

pub returns-clause-ok : goal.returns-clause-ok
returns-clause-ok c = λ es k held texts few l h.
    gets c.args.rebuild.now c.deliver.new.rebuild c.args.session.now c.deliver.new.session es k c.args.n c.args.c held c.in_ok-heard.heard.ats c.in_ok-heard.heard.fault c.in_ok-told_ends.field-0.items l h
    (λ before x short. c.in_ok-heard.ensures.short es k before texts few x short) (λ before x none. c.in_ok-heard.ensures.good es k before x none) c.in_ok-heard.ensures.held (sym c.is_some.ensures ∙ c.if-is_some.false) (c.in_ok-told_ends.ensures ∙ ap (λ (o : Option Rebuilt). ends_or_still c.args.c o c.as_slice.result.now) c.held.ensures.value ∙ ap (ends_or_still c.args.c c.deliver.new.rebuild.held) c.as_slice.ensures)
