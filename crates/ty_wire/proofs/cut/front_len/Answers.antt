use Rattle.std.proofs.Common.{ℕ, rules, ◌+◌, ◌∙◌, sym, ap, arith, take}
use Rattle.std.specs.List.{sum_by}
use Rattle.ty_wire.specs.Cut.{weight}
use Rattle.std.proofs.lemmas.List.Sums.{sum_by_push}
use Rattle.std.proofs.lemmas.List.{take_more}
use Rattle.ty_wire.proofs.Parts.{front-more, front-ends, front-all}
use Rattle.ty_wire.proofs.cut.front_len.Goals as goal

pub returns-then-not-is_taken-clause-cut : goal.returns-then-not-is_taken-clause-cut
returns-then-not-is_taken-clause-cut c = front-ends c.args.deltas.now c.loop-len.len c.loop-len.weight c.index-deltas-len.result (omega arith) c.index-deltas-len.is c.loop-len.invariant.weight (sym c.is_taken.ensures ∙ search rules) c.loop-len.invariant.cut

pub loop-len-preserved : goal.loop-len-preserved
loop-len-preserved c = record {
  some = omega arith;
  within = omega arith;
  weight = ap (λ (n : ℕ). n + c.weight_of-weight-in-loop-len.result) c.loop-len.invariant.weight
      ∙ ap (λ (n : ℕ). sum_by weight (take c.loop-len.len c.args.deltas.now) + n) (c.weight_of-weight-in-loop-len.ensures.value ∙ ap weight c.index-deltas-len.is)
      ∙ sym (sum_by_push weight (take c.loop-len.len c.args.deltas.now) _)
      ∙ ap (sum_by weight) (sym (take_more c.args.deltas.now c.loop-len.len c.index-deltas-len.result (omega arith)));
  cut = front-more c.args.deltas.now c.loop-len.len c.loop-len.weight c.index-deltas-len.result (omega arith) c.index-deltas-len.is c.loop-len.invariant.weight (sym c.is_taken.ensures ∙ search rules) c.loop-len.invariant.cut;
}

pub returns-clause-cut : goal.returns-clause-cut
returns-clause-cut c = front-all c.args.deltas.now c.loop-len.len (omega arith) c.loop-len.invariant.cut
