use Rattle.std.proofs.Common.{◌-◌, ◌∙◌, ap, sym}
use Rattle.std.specs.Prelude.{Some, slice_get}
use Rattle.ty_client.proofs.Connections.{last_is, none_left}
use Rattle.ty_client.proofs.rebuild.keep_last.Goals as goal

pub returns-then-len-eq0-clause-ok : goal.returns-then-len-eq0-clause-ok
returns-then-len-eq0-clause-ok c = none_left c.args.held.now c.args.ats.now (sym c.len-len.ensures ∙ c.if-len-eq0.true)

pub returns-clause-ok : goal.returns-clause-ok
returns-clause-ok c =
    sym (last_is c.args.held.now c.args.ats.now c.in_ok-last.last (
    ap (λ n. slice_get c.args.ats.now (n - 1)) (sym c.len-len.ensures) ∙ c.at.ensures ∙ ap Some (sym c.in_ok-last.ensures)))
