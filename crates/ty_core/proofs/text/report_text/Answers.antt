use Rattle.std.proofs.Common.{List, ℕ, ◌++◌, ap, sym, ◌∙◌, arith}
use Rattle.std.proofs.lemmas.List.{take_all}
use Rattle.ty_core.specs.Text.{lines, report_text}
use Rattle.ty_core.proofs.Lines.{lines_more}
use Rattle.ty_core.proofs.text.report_text.Goals as goal

pub loop-one-preserved : goal.loop-one-preserved
loop-one-preserved c =
    c.in_ok-push_lines.ensures
    ∙ ap (λ (l : List ℕ). l ++ lines c.one-item.result) c.loop-one.invariant
    ∙ sym (lines_more c.args.told.now c.loop-one.one-index c.one-item.result c.loop-one-test.true c.one-item.is)

pub returns : goal.returns
returns c = c.from_string.ensures ∙ c.loop-one.invariant ∙ ap report_text (take_all c.loop-one.one-index c.args.told.now (omega arith))
