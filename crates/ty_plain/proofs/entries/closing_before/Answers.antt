use Rattle.std.proofs.Common.{◌∙◌, arith}
use Rattle.ty_plain.proofs.Books.{before_taken, before_passed}
use Rattle.ty_plain.proofs.entries.closing_before.Goals as goal
use Rattle.ty_plain.proofs.entries.closing_before.Goals.{then-p-c, else-p-c}

pub loop-p-preserved : goal.loop-p-preserved
loop-p-preserved c = record {
  is = elim c.if-p-c.branch [
    | then-p-c w ↦ w.last-is ∙ before_taken c.args.closings.now c.loop-p.p-index c.args.c c.loop-p-test.true w.if-p-c.true
    | else-p-c w ↦ w.last-is ∙ c.loop-p.invariant.is ∙ before_passed c.args.closings.now c.loop-p.p-index c.args.c c.loop-p-test.true w.if-p-c.false
  ];
  within = elim c.if-p-c.branch [ then-p-c w ↦ omega arith | else-p-c w ↦ omega arith ];
}
