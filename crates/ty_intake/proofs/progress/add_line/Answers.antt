use Rattle.std.proofs.Common.{subst, ◌+◌}
use Rattle.std.specs.Prelude.{None, Some, Option}
use Rattle.ty_base.specs.declared.item.Item.{Item}
use Rattle.ty_intake.specs.steps.Progress.{IsLineTold}
use Rattle.ty_intake.specs.declared.line.Told.{Told}
use Rattle.ty_intake.specs.declared.line.Told.TheVariants.{Gives}
use Rattle.ty_intake.proofs.ReadLines.{line-fails, line-skips, line-gives}
use Rattle.ty_intake.proofs.progress.add_line.Goals as goal

pub returns-in-Fails : goal.returns-in-Fails
returns-in-Fails c =
    let P : Told → Type 0 = λ t. IsLineTold (c.args.progress.now.lines + 1) c.args.line.now t in
    line-fails c.args.line.now c.args.progress.now c.in-Fails.fault c.requires.sound (subst P c.in-Fails.is c.in_ok-fault.ensures)

pub returns-in-Gives-None : goal.returns-in-Gives-None
returns-in-Gives-None c =
    let P : Told → Type 0 = λ t. IsLineTold (c.args.progress.now.lines + 1) c.args.line.now t in
    let Q : Option Item → Type 0 = λ o. IsLineTold (c.args.progress.now.lines + 1) c.args.line.now (Gives o) in
    let t : Q None = subst Q c.in-Gives-None.field-0-is (subst P c.in-Gives-None.is c.in_ok-fault.ensures) in
    line-skips c.args.line.now c.args.progress.now c.requires.sound t.0 t.1

pub returns-in_ok-add_item-in-Gives-Some : goal.returns-in_ok-add_item-in-Gives-Some
returns-in_ok-add_item-in-Gives-Some c =
    let P : Told → Type 0 = λ t. IsLineTold (c.args.progress.now.lines + 1) c.args.line.now t in
    let Q : Option Item → Type 0 = λ o. IsLineTold (c.args.progress.now.lines + 1) c.args.line.now (Gives o) in
    let t : Q (Some c.in-Gives-Some.item) = subst Q c.in-Gives-Some.field-0-is (subst P c.in-Gives-Some.is c.in_ok-fault.ensures) in
    line-gives c.args.line.now c.args.progress.now c.add_item.new.progress (Some c.in-Gives-Some.item) t.0 t.1
    c.in_ok-add_item-in-Gives-Some.ensures.lines c.in_ok-add_item-in-Gives-Some.ensures.sound c.in_ok-add_item-in-Gives-Some.ensures.follows
