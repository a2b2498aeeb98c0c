use Rattle.std.proofs.Common.{subst}
use Rattle.std.specs.Prelude.{Option, option_to_list}
use Rattle.ty_session.specs.Held.{SessionHeld}
use Rattle.ty_core.specs.Held.{LinkStands}
use Rattle.ty_core.proofs.Stepping.{ticks_some, told_ticks_some}
use Rattle.ty_core.proofs.slot.tick_session.Goals as goal

pub returns-in_ok-tick_link-in-Some-clause-link : goal.returns-in_ok-tick_link-in-Some-clause-link
returns-in_ok-tick_link-in-Some-clause-link c = λ rb es link l.
    let P : Option SessionHeld → Type 0 = λ s. LinkStands rb s es link in
    ticks_some c.args.now rb c.in-Some.session c.tick_link.new.session es link (λ k x. c.in_ok-tick_link-in-Some.ensures.link rb es k x) (subst P c.in-Some.is l)

pub returns-in_ok-tick_link-in-Some-clause-told : goal.returns-in_ok-tick_link-in-Some-clause-told
returns-in_ok-tick_link-in-Some-clause-told c = λ rb es link l.
    let P : Option SessionHeld → Type 0 = λ s. LinkStands rb s es link in
    told_ticks_some c.args.now c.args.c rb c.in-Some.session es link (option_to_list c.in_ok-tick_link-in-Some.field-0) (λ k x. c.in_ok-tick_link-in-Some.ensures.told rb es k x) (subst P c.in-Some.is l)
