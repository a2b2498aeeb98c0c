use Rattle.std.proofs.Common.{◌≡◌, ◌++◌, [], codes, drop}
use denote.Text.{Utf8}
use denote.Shadow.{shadow}
use Rattle.ty_select.specs.Forms.{forms_of}
use Rattle.ty_select.specs.steps.Forms.{forms}
use Rattle.ty_select.specs.Text.{parted}
use Rattle.ty_select.proofs.text.+printing.Given as goal

abbrev pub invariant-print_operands-loop-operand : goal.invariant-print_operands-loop-operand
invariant-print_operands-loop-operand l =
    shadow (Utf8 l.before) × (l.out.items ++ parted l.before l.mark (forms_of (forms (drop l.operand-index l.operands))) ≡ l.fn.out.items ++ (codes "(" ++ parted [] l.mark (forms_of (forms l.operands))))
