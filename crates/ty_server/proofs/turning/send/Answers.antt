use Rattle.std.proofs.Common.{◌≡◌, ap, sym, ◌∙◌, subst}
use Rattle.std.specs.Prelude.{None, Some, Err}
use Rattle.ty_crumb.specs.declared.crumb.Crumb.{Crumb}
use Rattle.ty_session.specs.Outcomes.{TakesNext, IfLeft, offer_reason}
use Rattle.ty_server.proofs.Turns.{steps_sent, steps_unsent}
use Rattle.ty_server.proofs.turning.send.Goals as goal

pub returns-in-Ok-clause-steps : goal.returns-in-Ok-clause-steps
returns-in-Ok-clause-steps g c = λ a f m.
    let same = c.encoded.ensures ∙ ap (λ (k : Crumb). k.deltas) (sym c.crumb.ensures.crumb) in
    steps_sent c.args.now a f c.args.follower.now c.args.session.now c.offer_encoded.new.self m
    (subst (λ (k : Crumb). TakesNext c.args.session.now c.offer_encoded.new.self k c.args.now) c.crumb.ensures.crumb (c.in-Ok.ensures.goes_on same))
    (subst (λ (k : Crumb). offer_reason k.at c.args.now c.args.session.now.stance ≡ None) c.crumb.ensures.crumb c.in-Ok.ensures.ok)

pub returns-in-Err-clause-steps : goal.returns-in-Err-clause-steps
returns-in-Err-clause-steps g c = λ a f m.
    steps_unsent c.args.now a f c.args.follower.now c.args.session.now c.offer_encoded.new.self c.in-Err.gone m
    (subst (λ (k : Crumb). IfLeft {A = Unit {0}} (Err c.in-Err.gone) (λ r. offer_reason k.at c.args.now c.args.session.now.stance ≡ Some r)) c.crumb.ensures.crumb c.in-Err.ensures.left)
    c.in-Err.ensures.leaves c.in-Err.ensures.short
