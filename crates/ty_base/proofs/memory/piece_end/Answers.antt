use Rattle.std.proofs.Common.{◌∙◌, arith}
use Rattle.ty_base.proofs.Taken.{end_found, end_passed, end_of_all}
use Rattle.ty_base.proofs.memory.piece_end.Goals as goal

pub returns-then-at-end-clause-exact : goal.returns-then-at-end-clause-exact
returns-then-at-end-clause-exact c =
    c.min.ensures ∙ end_found c.args.ends.now c.loop-end.end-index c.args.at c.args.len c.loop-end-test.true c.if-at-end.true ∙ c.loop-end.invariant

pub loop-end-preserved : goal.loop-end-preserved
loop-end-preserved c =
    end_passed c.args.ends.now c.loop-end.end-index c.args.at c.args.len c.loop-end-test.true (omega (arith, c.if-at-end.false)) ∙ c.loop-end.invariant

pub returns-clause-exact : goal.returns-clause-exact
returns-clause-exact c = end_of_all c.args.ends.now c.loop-end.end-index c.args.at c.args.len (omega (arith, c.loop-end-test.false)) ∙ c.loop-end.invariant
