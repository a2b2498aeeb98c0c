use Rattle.std.proofs.Common.{ap, sym, ◌∙◌, [], ◌∷◌, ◌++◌, append-nil, append_assoc}
use Rattle.ty_base.proofs.Passing.{left}
use Rattle.ty_base.specs.Limits.{key_fits, value_fits, pairs_fit, deltas_fit}
use Rattle.ty_map.specs.Shape.{pairs}
use Rattle.ty_crumb.specs.Crumbs.{snapshot_of}
use Rattle.ty_crumb.proofs.Limits.{snapshot_passes}
use Rattle.ty_crumb.proofs.snapshots.snapshot.Goals as goal

pub returns-clause-within : goal.returns-clause-within
returns-clause-within c =
    let m = pairs c.args.crumb.now.pairs in
    ap deltas_fit (sym (append-nil c.loop-key.deltas) ∙ sym (ap (λ it. c.loop-key.deltas ++ snapshot_of it) c.in-None.ensures.steps.0) ∙ c.loop-key.invariant)
    ∙ snapshot_passes key_fits value_fits m (left (pairs_fit m) (deltas_fit c.args.crumb.now.deltas) c.args.crumb.now.within)

pub loop-key-preserved : goal.loop-key-preserved
loop-key-preserved c =
    let rest = c.next.new.self in
    ap (λ ds. ds ++ snapshot_of rest) c.in_ok-push.ensures.ok
    ∙ append_assoc c.loop-key.deltas (c.in_ok-new_delta.field-0 ∷ []) (snapshot_of rest)
    ∙ ap (λ d. c.loop-key.deltas ++ (d ∷ snapshot_of rest)) c.in_ok-new_delta.ensures
    ∙ sym (ap (λ it. c.loop-key.deltas ++ snapshot_of it) c.in-Some.ensures.steps)
    ∙ c.loop-key.invariant
