use Rattle.std.proofs.Common.{◌≡◌, ◌++◌, [], codes, drop}
use denote.Text.{Utf8}
use denote.Shadow.{shadow}
use Rattle.ty_select.specs.Text.{quoted_texts}
use Rattle.ty_select.proofs.text.print_set.Given as goal

abbrev pub invariant-loop-value : goal.invariant-loop-value
invariant-loop-value l =
    shadow (Utf8 l.before) × (l.out.items ++ quoted_texts l.before (drop l.value-index l.values) ≡ l.fn.out.items ++ (codes "{" ++ quoted_texts [] l.values))
