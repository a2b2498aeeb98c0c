use Rattle.std.proofs.Common.{◌≡◌, true, arith, sym, subst, ap, List, length, length-drop}
use Rattle.std.proofs.lemmas.List.{take_rest}
use Rattle.ty_base.specs.declared.delta.Delta.{Delta}
use Rattle.ty_base.specs.Limits.{deltas_fit}
use Rattle.ty_wire.proofs.Parts.{within-drop}
use Rattle.ty_wire.proofs.Sent.{sent-more}
use Rattle.ty_wire.proofs.group.append_deltas.Goals as goal

pub append_front-requires-clause-limits : goal.append_front-requires-clause-limits
append_front-requires-clause-limits c =
    let P : List Delta → Type 0 = λ ds. deltas_fit ds ≡ true in
    subst P (sym (take_rest c.args.deltas.now c.loop-from.from)) (within-drop c.loop-from.from c.args.deltas.now c.requires)

pub loop-from-preserved : goal.loop-from-preserved
loop-from-preserved c = record {
  within = omega (arith, c.in_ok-from.ensures.within, ap length (take_rest c.args.deltas.now c.loop-from.from), length-drop c.loop-from.from c.args.deltas.now);
  sent = sent-more c.args.deltas.now _ c.loop-from.from c.in_ok-from.field-0 c.args.out.now.items c.loop-from.out.items c.append_front.new.out.items (take_rest c.args.deltas.now c.loop-from.from) c.loop-from.invariant.sent c.in_ok-from.ensures.sent;
}
