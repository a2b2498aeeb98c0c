use Rattle.std.proofs.Common.{arith, ◌∙◌}
use Rattle.std.proofs.lemmas.List.{length-map}
use Rattle.ty_select.proofs.Loops.{several}
use Rattle.ty_select.proofs.Shapes.{form-And}
use Rattle.ty_select.specs.Forms.{form}
use Rattle.ty_select.specs.steps.Forms.{forms}
use Rattle.ty_select.specs.Expressions.{both_of}
use Rattle.ty_select.proofs.expression.all_of.Goals as goal

pub returns-else-len-eq1 : goal.returns-else-len-eq1
returns-else-len-eq1 c = form-And c.args.list ∙ several both_of (forms c.args.list.items) (λ e. c.if-len-eq1.false (omega (arith, e, length-map c.args.list.items form)))
