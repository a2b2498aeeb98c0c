use Rattle.std.proofs.Common.{sym, ◌∙◌}
use Rattle.ty_select.specs.declared.token.Kind.TheVariants.{Quoted}
use Rattle.ty_select.proofs.Tokens.{quoted_found, quoted_other}
use Rattle.ty_select.proofs.token.quoted_at.Goals as goal

pub returns-in_default : goal.returns-in_default
returns-in_default c =
    c.nothing-in_default.ensures
    ∙ sym (quoted_other c.args.here.now c.after-body.result.now c.args.quote c.place_of-count.result c.after-body.ensures c.place_of-count.ensures c.if-count-body.false c.in_default.ensures.cases.0)

pub returns : goal.returns
returns c =
    (λ i. record { kind = Quoted; here = c.args.here.now; text = c.in-Ok.ensures.cases.0 i; rest = c.after.ensures i })
    ∙ sym (quoted_found c.args.here.now c.after-body.result.now c.args.quote c.place_of-count.result c.after-body.ensures c.place_of-count.ensures c.if-count-body.false c.in-Ok.ensures.cases.1)
