use Rattle.std.proofs.Common.{◌≡◌, ◌∙◌, [], arith}
use Rattle.std.proofs.lemmas.Grind.{common_steps}
use Rattle.std.specs.Vec.Iter.{into_iter_items}
use Rattle.ty_crumb.proofs.Applied.{applied_none, applied_more, all_told, few_made}
use Rattle.ty_crumb.proofs.successor.changed_by.Goals as goal

pub loop-key-init : goal.loop-key-init
loop-key-init c = applied_none _ _ _ _ (c.from_vec-deltas.ensures ∙ c.in_ok-with_capacity.ensures.items) c.into_iter-key-iterator.ensures.into_iter_gives.0 c.requires

pub loop-key-preserved : goal.loop-key-preserved
loop-key-preserved c =
    applied_more _ _ _ _ _ _ (c.in-Some.key, c.in-Some.value) _ _ _ c.loop-key.invariant c.in-Some.ensures.steps.0
    c.in_ok-after.ensures.delta c.in_ok-after.ensures.pairs c.in_ok-after.ensures.same c.in_ok-after.ensures.ascending c.in_ok-after.ensures.low c.in_ok-after.ensures.few c.in_ok-add.ensures

pub returns-clause-deltas : goal.returns-clause-deltas
returns-clause-deltas c =
    let end : into_iter_items c.loop-key.key-iterator ≡ [] = grind (arith, common_steps) in
    all_told _ _ _ _ _ c.loop-key.invariant end

pub returns-clause-few : goal.returns-clause-few
returns-clause-few c = few_made _ _ _ _ _ c.loop-key.invariant
