use Rattle.std.proofs.Common.{sym, ◌∙◌}
use Rattle.ty_select.specs.declared.token.Kind.TheVariants.{Word}
use Rattle.ty_select.proofs.Tokens.{word_is_utf8, word_found, word_refused}
use Rattle.ty_select.proofs.token.word_at.Goals as goal

pub returns-then-not-is_word_len : goal.returns-then-not-is_word_len
returns-then-not-is_word_len c =
    c.nothing.ensures ∙ sym (word_refused c.args.here.now c.word_len-count.result c.word_len-count.ensures (sym c.if-not-is_word_len.ensures))

pub returns-in_default : goal.returns-in_default
returns-in_default c = absurd (c.in_default.ensures.cases.0 (word_is_utf8 c.args.here.now c.word_len-count.result c.word_len-count.ensures))

pub returns : goal.returns
returns c =
    (λ i. record { kind = Word; here = c.args.here.now; text = c.in-Ok.ensures.cases.0 i; rest = c.after.ensures i })
    ∙ sym (word_found c.args.here.now c.word_len-count.result c.word_len-count.ensures (sym c.if-not-is_word_len.ensures))
