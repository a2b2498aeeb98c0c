use Rattle.std.proofs.Common.{sym, ◌∙◌}
use Rattle.ty_script.proofs.FeedLines.{led, told, blank}
use Rattle.ty_script.proofs.script.is_like_feed.Goals as goal

pub returns-then-not-may_lead : goal.returns-then-not-may_lead
returns-then-not-may_lead c =
    told c.args.line.now c.loop-b.b-index c.loop-b-test.true (sym c.may_lead.ensures ∙ c.if-not-may_lead.true) c.loop-b.invariant

pub loop-b-preserved : goal.loop-b-preserved
loop-b-preserved c =
    led c.args.line.now c.loop-b.b-index c.loop-b-test.true (sym c.may_lead.ensures ∙ c.if-not-may_lead.false) c.loop-b.invariant

pub returns : goal.returns
returns c = blank c.args.line.now c.loop-b.b-index c.loop-b-test.false c.loop-b.invariant
