use Rattle.std.proofs.Common.{◌+◌, ◌++◌, ◌∷◌, [], codes, drop, refl, ap, ◌∙◌}
use Rattle.ty_select.specs.Text.{quoted_text, quoted_texts}
use Rattle.ty_select.proofs.Printed.{listed_on}
use Rattle.ty_select.proofs.text.print_set.Goals as goal

pub loop-value-preserved : goal.loop-value-preserved
unfolding lib.Utf8.encode
loop-value-preserved c = (
  (44 ∷ 32 ∷ [], (refl, refl)),
  ap (λ o. o ++ quoted_texts (codes ", ") (drop (c.loop-value.value-index + 1) c.args.values.now)) (c.in_ok-print_quoted.ensures ∙ ap (λ o. o ++ quoted_text c.value-item.result) c.in_ok-push-2.ensures)
      ∙ listed_on c.args.values.now c.loop-value.value-index c.loop-value.out.items c.loop-value.before.now _ c.value-item.result c.loop-value-test.true c.value-item.is c.loop-value.invariant.1,
)
