use Rattle.std.proofs.Common.{sym, ap, ◌∙◌, arith}
use Rattle.ty_client.specs.declared.follower.FollowFault.TheVariants.{Cut}
use Rattle.ty_client.proofs.follower.ended.Goals as goal

pub returns-then-left-eq0 : goal.returns-then-left-eq0
returns-then-left-eq0 c = λ bytes rest ms s r. sym (c.left-left.ensures.rest bytes rest ms c.requires s r) ∙ c.if-left-eq0.true

pub returns-else-left-eq0 : goal.returns-else-left-eq0
returns-else-left-eq0 c = λ bytes rest ms s r. (omega (arith, c.left-left.ensures.rest bytes rest ms c.requires s r), ap Cut (c.left-left.ensures.rest bytes rest ms c.requires s r))
