use Rattle.std.proofs.Common.{arith}
use Rattle.ty_core.proofs.Chains.{news_step}
use Rattle.ty_core.proofs.chain.Chain.news.Goals as goal

pub loop-n-preserved : goal.loop-n-preserved
loop-n-preserved c = λ es a.
    news_step es c.loop-n.told.items c.push.new.self.items c.in_ok-at.field-0 c.args.number c.loop-n.n (c.loop-n.invariant es a) (omega arith) (c.in_ok-at.ensures es a) c.in_ok-push.ensures.items
