use Rattle.std.proofs.Common.{ℕ, ◌+◌, ◌∙◌, sym, ap, arith, take}
use Rattle.std.specs.List.{sum_by}
use Rattle.std.proofs.lemmas.List.Sums.{sum_by_push}
use Rattle.std.proofs.lemmas.List.{take_more}
use Rattle.ty_wire.specs.Cut.{weight}
use Rattle.ty_wire.proofs.Parts.{one-weight}
use Rattle.ty_wire.proofs.DeltaTexts.{fits-at, utf8-more}
use Rattle.ty_wire.proofs.kvs.weigh.Goals as goal

pub overflow_add-weight : goal.overflow_add-weight
overflow_add-weight c =
    let fits = fits-at c.args.deltas.now c.loop-delta.delta-index c.delta-item.result c.requires.limits (omega arith) c.delta-item.is in
    omega (arith, c.loop-delta.invariant.1, c.weight_of-weight.ensures.value, one-weight c.delta-item.result fits)

pub loop-delta-preserved : goal.loop-delta-preserved
loop-delta-preserved c =
    let ds = c.args.deltas.now in
    let i = c.loop-delta.delta-index in
    let fits = fits-at ds i c.delta-item.result c.requires.limits (omega arith) c.delta-item.is in (
      ap (λ (n : ℕ). n + c.weight_of-weight.result) c.loop-delta.invariant.0
          ∙ ap (λ (n : ℕ). sum_by weight (take i ds) + n) (c.weight_of-weight.ensures.value ∙ ap weight c.delta-item.is)
          ∙ sym (sum_by_push weight (take i ds) _)
          ∙ ap (sum_by weight) (sym (take_more ds i c.delta-item.result (omega arith))),
      omega (arith, c.loop-delta.invariant.1, c.weight_of-weight.ensures.value, one-weight c.delta-item.result fits),
      utf8-more ds i c.delta-item.result (omega arith) c.delta-item.is c.loop-delta.invariant.2 c.weight_of-weight.ensures.utf8,
    )
