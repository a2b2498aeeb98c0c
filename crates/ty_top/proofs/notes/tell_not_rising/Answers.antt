use Rattle.std.proofs.Common.{◌++◌}
use Rattle.std.specs.Prelude.{decimal, codes}
use Rattle.ty_base.proofs.Known.{Appends-then, AppendsFront-more, AppendsFront-after}
use Rattle.ty_top.specs.Notes.{with_two_numbers}
use Rattle.ty_top.proofs.notes.tell_not_rising.Goals as goal

pub returns-in_default-clause-err : goal.returns-in_default-clause-err
returns-in_default-clause-err g c = AppendsFront-more _ _ (codes "typha: frame ") (decimal c.args.frame ++ with_two_numbers (codes ": crumb ") c.args.found (codes " after ") c.args.had (codes "\n")) c.in_default.ensures.err

pub returns-in_default-give_number-clause-err : goal.returns-in_default-give_number-clause-err
returns-in_default-give_number-clause-err g c = AppendsFront-after _ _ _ (codes "typha: frame ") (decimal c.args.frame ++ with_two_numbers (codes ": crumb ") c.args.found (codes " after ") c.args.had (codes "\n")) c.in-Ok.ensures.ok
    (AppendsFront-more _ _ (decimal c.args.frame) (with_two_numbers (codes ": crumb ") c.args.found (codes " after ") c.args.had (codes "\n")) c.in_default-give_number.ensures.err)

pub returns-in_default-give_with_two_numbers-clause-err : goal.returns-in_default-give_with_two_numbers-clause-err
returns-in_default-give_with_two_numbers-clause-err g c = AppendsFront-after _ _ _ (codes "typha: frame ") (decimal c.args.frame ++ with_two_numbers (codes ": crumb ") c.args.found (codes " after ") c.args.had (codes "\n")) c.in-Ok.ensures.ok
    (AppendsFront-after _ _ _ (decimal c.args.frame) (with_two_numbers (codes ": crumb ") c.args.found (codes " after ") c.args.had (codes "\n")) c.in-Ok-give_number.ensures.ok c.in_default-give_with_two_numbers.ensures.err)

pub returns-clause-ok : goal.returns-clause-ok
returns-clause-ok g c = Appends-then _ _ _ (codes "typha: frame ") (decimal c.args.frame ++ with_two_numbers (codes ": crumb ") c.args.found (codes " after ") c.args.had (codes "\n")) c.in-Ok.ensures.ok
    (Appends-then _ _ _ (decimal c.args.frame) (with_two_numbers (codes ": crumb ") c.args.found (codes " after ") c.args.had (codes "\n")) c.in-Ok-give_number.ensures.ok c.in-Ok-give_with_two_numbers.ensures.ok)
