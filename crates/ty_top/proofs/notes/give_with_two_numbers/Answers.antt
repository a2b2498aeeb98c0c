use Rattle.std.proofs.Common.{◌++◌}
use Rattle.std.specs.Prelude.{decimal}
use Rattle.ty_base.proofs.Known.{Appends-then, AppendsFront-more, AppendsFront-after}
use Rattle.ty_top.specs.Notes.{with_number}
use Rattle.ty_top.proofs.notes.give_with_two_numbers.Goals as goal

pub returns-in_default-clause-err : goal.returns-in_default-clause-err
returns-in_default-clause-err g c = AppendsFront-more _ _ c.args.before.now (decimal c.args.number ++ with_number c.args.between.now c.args.other c.args.after.now) c.in_default.ensures.err

pub returns-in_default-give_number-clause-err : goal.returns-in_default-give_number-clause-err
returns-in_default-give_number-clause-err g c = AppendsFront-after _ _ _ c.args.before.now (decimal c.args.number ++ with_number c.args.between.now c.args.other c.args.after.now) c.in-Ok.ensures.ok
    (AppendsFront-more _ _ (decimal c.args.number) (with_number c.args.between.now c.args.other c.args.after.now) c.in_default-give_number.ensures.err)

pub returns-in_default-give_with_number-clause-err : goal.returns-in_default-give_with_number-clause-err
returns-in_default-give_with_number-clause-err g c = AppendsFront-after _ _ _ c.args.before.now (decimal c.args.number ++ with_number c.args.between.now c.args.other c.args.after.now) c.in-Ok.ensures.ok
    (AppendsFront-after _ _ _ (decimal c.args.number) (with_number c.args.between.now c.args.other c.args.after.now) c.in-Ok-give_number.ensures.ok c.in_default-give_with_number.ensures.err)

pub returns-clause-ok : goal.returns-clause-ok
returns-clause-ok g c = Appends-then _ _ _ c.args.before.now (decimal c.args.number ++ with_number c.args.between.now c.args.other c.args.after.now) c.in-Ok.ensures.ok
    (Appends-then _ _ _ (decimal c.args.number) (with_number c.args.between.now c.args.other c.args.after.now) c.in-Ok-give_number.ensures.ok c.in-Ok-give_with_number.ensures.ok)
