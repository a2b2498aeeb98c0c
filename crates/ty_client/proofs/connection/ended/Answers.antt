use Rattle.std.proofs.Common.{sym, ap, ◌∙◌, arith}
use Rattle.ty_client.specs.declared.follower.FollowFault.TheVariants.{Cut}
use Rattle.ty_client.proofs.connection.ended.Goals as goal

pub returns-then-left-eq0 : goal.returns-then-left-eq0
returns-then-left-eq0 c = λ bytes rest ms s n r. sym (c.left-left.ensures.here bytes rest ms s n r) ∙ c.if-left-eq0.true

pub returns-else-left-eq0 : goal.returns-else-left-eq0
returns-else-left-eq0 c = λ bytes rest ms s n r. (omega (arith, c.left-left.ensures.here bytes rest ms s n r), ap Cut (c.left-left.ensures.here bytes rest ms s n r))
