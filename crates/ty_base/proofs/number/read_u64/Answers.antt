use Rattle.std.proofs.Common.{◌∙◌, refl, sym, true≢false}
use Rattle.ty_base.proofs.Digits.{read_begun, read_not_begun}
use Rattle.ty_base.proofs.number.read_u64.Goals as goal

pub returns-then-not-begins_numeral : goal.returns-then-not-begins_numeral
returns-then-not-begins_numeral c = read_not_begun c.args.text.now (λ h. true≢false (sym (c.if-not-begins_numeral.ensures.1 h)))

pub returns : goal.returns
returns c = c.value_of.ensures ∙ read_begun c.args.text.now (c.if-not-begins_numeral.ensures.0 refl)
