use Rattle.std.proofs.Common.{◌∙◌, ap, sym, cond}
use Rattle.std.specs.Prelude.{None, Some}
use Rattle.std.specs.Option.{option_copied}
use Rattle.ty_base.specs.Feed as feed
use Rattle.ty_plain.specs.steps.Scans.{updated}
use Rattle.ty_plain.proofs.change.change.Goals as goal

pub returns-in_ok-added-in-None-Some : goal.returns-in_ok-added-in-None-Some
returns-in_ok-added-in-None-Some c =
    ap Some c.in_ok-added-in-None-Some.ensures
    ∙ sym (ap (λ o. feed.change c.args.key.now (option_copied o) (option_copied c.args.after)) c.in-None-Some.is-0 ∙ ap (λ o. feed.change c.args.key.now None (option_copied o)) c.in-None-Some.is-1)

pub returns-in_ok-updated-in-Some-Some : goal.returns-in_ok-updated-in-Some-Some
returns-in_ok-updated-in-Some-Some c =
    ap Some c.in_ok-updated-in-Some-Some.ensures
    ∙ sym (ap (λ o. feed.change c.args.key.now (option_copied o) (option_copied c.args.after)) c.in-Some-Some.is-0
    ∙ ap (λ o. feed.change c.args.key.now (Some c.in-Some-Some.old.now) (option_copied o)) c.in-Some-Some.is-1
    ∙ ap (λ b. cond b None (Some (updated c.args.key.now c.in-Some-Some.value.now))) (sym c.same.ensures ∙ c.if-same.false))
