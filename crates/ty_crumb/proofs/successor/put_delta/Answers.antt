use Rattle.std.proofs.Common.{◌∙◌, ap, sym}
use Rattle.std.specs.Prelude.{Some}
use Rattle.ty_crumb.specs.steps.Deltas.{delta_of}
use Rattle.ty_crumb.proofs.successor.put_delta.Goals as goal

pub returns-in-New : goal.returns-in-New
returns-in-New c = ap Some c.added.ensures ∙ sym (ap (λ o. delta_of o c.args.key c.args.value) (c.in-Some.is ∙ ap Some c.in-New.is))

pub returns-in-Updated : goal.returns-in-Updated
returns-in-Updated c = ap Some c.updated.ensures ∙ sym (ap (λ o. delta_of o c.args.key c.args.value) (c.in-Some.is ∙ ap Some c.in-Updated.is))
