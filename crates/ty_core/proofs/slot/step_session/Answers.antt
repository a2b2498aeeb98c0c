use Rattle.std.proofs.Common.{subst}
use Rattle.std.specs.Prelude.{Option}
use Rattle.ty_session.specs.Held.{SessionHeld}
use Rattle.ty_core.specs.Held.{LinkStands}
use Rattle.ty_core.proofs.Stepping.{steps_some, told_some}
use Rattle.ty_core.proofs.slot.step_session.Goals as goal

pub returns-in_ok-step_link-in-Some-clause-link : goal.returns-in_ok-step_link-in-Some-clause-link
returns-in_ok-step_link-in-Some-clause-link c = λ rb t link a l.
    let P : Option SessionHeld → Type 0 = λ s. LinkStands rb s t.entries link in
    steps_some t c.args.now rb c.in-Some.session c.step_link.new.session link (λ k x. c.in_ok-step_link-in-Some.ensures.link rb t k a x) (subst P c.in-Some.is l)

pub returns-in_ok-step_link-in-Some-clause-told : goal.returns-in_ok-step_link-in-Some-clause-told
returns-in_ok-step_link-in-Some-clause-told c = λ rb t link a l.
    let P : Option SessionHeld → Type 0 = λ s. LinkStands rb s t.entries link in
    told_some t c.args.now c.args.c rb c.in-Some.session link c.in_ok-step_link-in-Some.field-0 (λ k x. c.in_ok-step_link-in-Some.ensures.told rb t k a x) (subst P c.in-Some.is l)
