use Rattle.std.proofs.Common.{◌≡◌, ◌∙◌, sym, ap, subst, arith, List, flat_map}
use Rattle.std.specs.List.{AllByRecursion}
use Rattle.ty_base.specs.declared.delta.Delta.{Delta}
use Rattle.ty_wire.specs.Cut.{cut_deltas}
use Rattle.ty_wire.proofs.Parts.{cut-all, joined, all-fit, Fits}
use Rattle.ty_wire.proofs.cut.cut_kvs.Goals as goal

pub returns-clause-joined : goal.returns-clause-joined
returns-clause-joined c =
    let whole : cut_deltas c.args.deltas.now ≡ c.loop-from.parts.items = cut-all c.args.deltas.now c.as_slice-deltas.result.now c.loop-from.parts.items c.loop-from.from c.as_slice-deltas.ensures (omega arith) c.loop-from.invariant.cut in
    ap (flat_map (λ part. part)) (sym whole) ∙ joined c.args.deltas.now

pub returns-clause-fit : goal.returns-clause-fit
returns-clause-fit c = λ w.
    let whole : cut_deltas c.args.deltas.now ≡ c.loop-from.parts.items = cut-all c.args.deltas.now c.as_slice-deltas.result.now c.loop-from.parts.items c.loop-from.from c.as_slice-deltas.ensures (omega arith) c.loop-from.invariant.cut in
    let P : List (List Delta) → Type 0 = AllByRecursion Fits in
    subst P whole (all-fit c.args.deltas.now w)
