use Rattle.std.proofs.Common.{◌∙◌, ap, sym}
use Rattle.ty_base.specs.Feed.{get, change}
use Rattle.ty_map.specs.Shape.{pairs}
use Rattle.ty_crumb.specs.steps.Deltas.{delta_of}
use Rattle.ty_crumb.proofs.Applied.{told_by_kind}
use Rattle.ty_crumb.proofs.successor.applied.Goals as goal

pub returns-in_ok-map-in-Some-clause-delta : goal.returns-in_ok-map-in-Some-clause-delta
returns-in_ok-map-in-Some-clause-delta c =
    let k = c.args.key in
    let v = c.in-Some.value in
    let had = get (pairs c.args.map) k in
    c.put_delta.ensures ∙ ap (λ o. delta_of o k v) c.in_ok-map-in-Some.ensures.kind ∙ told_by_kind k had v ∙ ap (change k had) (sym c.in-Some.is)
