use Rattle.std.proofs.Common.{sym, ◌∙◌}
use Rattle.ty_session.proofs.Hearing.{bad_found, good_step, no_bad}
use Rattle.ty_session.proofs.client.first_bad.Goals as goal

pub returns-then-is_some : goal.returns-then-is_some
returns-then-is_some c l =
    bad_found c.args.frame c.loop-msg.next c.loop-msg.msg-index c.args.msgs.now c.msg-item.result c.bad_at-fault.result (c.loop-msg.invariant l) c.loop-msg-test.true c.msg-item.is c.bad_at-fault.ensures (sym c.is_some.ensures ∙ c.if-is_some.true)

pub loop-msg-preserved : goal.loop-msg-preserved
loop-msg-preserved c l =
    good_step c.args.frame c.loop-msg.next c.saturating_add-next.result c.loop-msg.msg-index c.args.msgs.now c.msg-item.result c.bad_at-fault.result (c.loop-msg.invariant l) c.loop-msg-test.true c.msg-item.is c.bad_at-fault.ensures (sym c.is_some.ensures ∙ c.if-is_some.false) l c.saturating_add-next.ensures

pub returns : goal.returns
returns c l = no_bad c.args.frame c.loop-msg.next c.loop-msg.msg-index c.args.msgs.now (c.loop-msg.invariant l) c.loop-msg-test.false
