use Rattle.std.proofs.Common.{◌∙◌, sym, arith}
use Rattle.ty_crumb.specs.Crumbs.{CrumbStands}
use Rattle.ty_core.proofs.Hearing.{hears_only, joins_heard, heard_phase}
use Rattle.ty_core.proofs.Published.{last_stands}
use Rattle.ty_core.proofs.slot.welcome.Goals as goal

pub returns-then-not-is_greeted : goal.returns-then-not-is_greeted
returns-then-not-is_greeted c = λ rb t k before a x.
    hears_only t.entries k rb c.args.session.now before c.args.now c.args.c c.args.count c.in_ok-one.field-0.items x (sym c.is_greeted.ensures ∙ c.if-not-is_greeted.true) c.in_ok-one.ensures

pub returns : goal.returns
returns c = λ rb t k before a x.
    let g = sym c.is_greeted.ensures ∙ c.if-not-is_greeted.false in
    let st : CrumbStands c.crumb.result.now t.entries = last_stands c.args.chain.now.crumbs.items t.entries c.newest-newest.result c.crumb.result.now a.stand c.newest-newest.ensures c.crumb.ensures in
    joins_heard t.entries k rb c.args.session.now c.join.new.self before c.args.now c.args.c c.args.count c.newest-newest.result c.in_ok-two.field-0.items x g
    (c.in_ok-join.ensures.joins t.entries st _ x.session_stands (heard_phase t.entries k rb c.args.session.now before c.args.now c.args.count x g))
    (omega (arith, c.newest-newest.ensures, a.stand.count)) c.in_ok-two.ensures
