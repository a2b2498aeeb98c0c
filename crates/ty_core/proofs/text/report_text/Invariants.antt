use Rattle.std.proofs.Common.{◌≡◌, take, string_bytes}
use Rattle.ty_core.specs.Text.{report_text}
use Rattle.ty_core.proofs.text.report_text.Given as goal

abbrev pub invariant-loop-one : goal.invariant-loop-one
invariant-loop-one l = string_bytes l.out ≡ report_text (take l.one-index l.told)
