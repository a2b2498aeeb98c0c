use Rattle.std.proofs.Common.{arith, sym, take, drop, ◌-◌}
use Rattle.std.proofs.lemmas.List.{take-append-drop}
use Rattle.std.proofs.lemmas.Grind.{common_steps}
use Rattle.ty_base.proofs.Known.{Appends-part, Appends-kept}
use Rattle.ty_base.proofs.flow.give_all.Goals as goal

pub loop-at-preserved : goal.loop-at-preserved
loop-at-preserved g c = record {
  within = grind (arith, common_steps);
  given = Appends-part _ _ _ c.args.bytes.now c.loop-at.at c.in-Ok.count (c.min-end.result - c.loop-at.at) (grind (arith, common_steps)) c.loop-at.invariant.given c.in-Ok.ensures.bytes;
  later = omega (arith, c.give.ensures.cause.later);
}

pub returns-in_default-clause-err : goal.returns-in_default-clause-err
returns-in_default-clause-err g c = (
  take c.loop-at.at c.args.bytes.now,
  drop c.loop-at.at c.args.bytes.now,
  sym (take-append-drop c.loop-at.at c.args.bytes.now),
  Appends-kept _ _ _ _ c.loop-at.invariant.given c.in_default.ensures.bytes,
)
