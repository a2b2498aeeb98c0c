use Rattle.std.proofs.Common.{true, ◌≡◌, rules, ◌∙◌, ◌-◌, sym, subst, arith, List}
use Rattle.std.proofs.lemmas.List.{take_all}
use Rattle.ty_base.specs.declared.delta.Delta.{Delta}
use Rattle.ty_base.specs.Limits.{deltas_fit}
use Rattle.ty_group.proofs.Pieces.{pushed_next, encoded, told}
use Rattle.ty_group.proofs.encoded.Encoded.of.Goals as goal

pub loop-delta-preserved : goal.loop-delta-preserved
loop-delta-preserved c =
    let ds : List Delta = c.as_slice-delta-items.result.now in
    let P : List Delta → Type 0 = λ xs. deltas_fit xs ≡ true in
    let w : deltas_fit ds ≡ true = subst P (sym c.as_slice-delta-items.ensures) c.requires in
    pushed_next ds c.loop-delta.delta-index c.delta-item.result c.loop-delta.text.items c.in_ok-text.text.items c.loop-delta.marks.items c.push.new.self.items (c.len.result - c.len-before.result) c.weight_of.result
    w c.weight_of.ensures.utf8 c.loop-delta-test.true c.delta-item.is c.in_ok-text.ensures (search rules) c.weight_of.ensures.weight c.in_ok-push.ensures.items c.loop-delta.invariant

pub invariant_of-result : goal.invariant_of-result
invariant_of-result c = encoded c.loop-delta.text.items c.loop-delta.marks.items _ c.loop-delta.invariant

pub returns : goal.returns
returns c =
    told c.loop-delta.text.items c.loop-delta.marks.items _ c.loop-delta.invariant
    ∙ take_all c.loop-delta.delta-index c.as_slice-delta-items.result.now (omega (arith, c.loop-delta-test.false)) ∙ c.as_slice-delta-items.ensures
