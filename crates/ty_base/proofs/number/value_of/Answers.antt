use Rattle.std.proofs.Common.{◌+◌, ◌∙◌, sym, drop, get_or}
use Rattle.ty_base.proofs.Digits.{owed_step, owed_none, owed_at, owed_past, with_digit_within}
use Rattle.ty_base.proofs.number.value_of.Goals as goal

pub returns-in_err-n : goal.returns-in_err-n
returns-in_err-n c =
    let text = c.args.text.now in
    let i = c.loop-digit.digit-index in
    c.from_residual.ensures ∙ sym (owed_none c.loop-digit.n (get_or text i 0) (drop (i + 1) text) (sym c.and_digit.ensures ∙ c.in_err-n.was)) ∙ sym (owed_at text i c.loop-digit.n c.loop-digit-test.true) ∙ c.loop-digit.invariant.rest

pub loop-digit-preserved : goal.loop-digit-preserved
loop-digit-preserved c =
    let text = c.args.text.now in
    let i = c.loop-digit.digit-index in
    record {
      within = with_digit_within c.loop-digit.n (get_or text i 0) c.in_ok-n.n (sym c.and_digit.ensures ∙ c.in_ok-n.was);
      rest = sym (owed_step c.loop-digit.n (get_or text i 0) (drop (i + 1) text) c.in_ok-n.n (sym c.and_digit.ensures ∙ c.in_ok-n.was)) ∙ sym (owed_at text i c.loop-digit.n c.loop-digit-test.true) ∙ c.loop-digit.invariant.rest;
    }

pub returns : goal.returns
returns c = sym (owed_past c.args.text.now c.loop-digit.digit-index c.loop-digit.n c.loop-digit-test.false c.loop-digit.invariant.within) ∙ c.loop-digit.invariant.rest
