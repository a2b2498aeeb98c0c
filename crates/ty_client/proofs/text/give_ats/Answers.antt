use Rattle.std.proofs.Common.{arith}
use Rattle.ty_client.specs.Text.{at_text}
use Rattle.ty_client.proofs.Printed.{gives_more, gives_cut, gives_all, next_text, text_end, not_err}
use Rattle.ty_client.proofs.text.give_ats.Goals as goal

pub loop-at-preserved : goal.loop-at-preserved
loop-at-preserved g c = record {
  gives = gives_more _ _ _ (at_text c.args.brief c.at-item.result) _ _ _ c.loop-at.invariant.gives c.in-Ok.ensures.ok (next_text c.args.brief c.args.ats.now c.loop-at.at-index c.at-item.result c.loop-at-test.true c.at-item.is);
  later = omega (arith, c.loop-at.invariant.later, c.in-Ok.ensures.later);
}

pub returns-in-Err : goal.returns-in-Err
returns-in-Err g c = record {
  ok = tt;
  err = gives_cut _ _ _ (at_text c.args.brief c.at-item.result) _ _ _ c.loop-at.invariant.gives c.in-Err.ensures.err (next_text c.args.brief c.args.ats.now c.loop-at.at-index c.at-item.result c.loop-at-test.true c.at-item.is);
  cause = λ h. omega (arith, c.in-Err.ensures.cause h, c.loop-at.invariant.later);
  later = omega (arith, c.loop-at.invariant.later, c.in-Err.ensures.later);
}

pub returns : goal.returns
returns g c = record {
  ok = gives_all _ _ _ _ c.loop-at.invariant.gives (text_end c.args.brief c.args.ats.now c.loop-at.at-index (omega arith));
  err = tt;
  cause = λ h. absurd (not_err _ _ h);
  later = c.loop-at.invariant.later;
}
