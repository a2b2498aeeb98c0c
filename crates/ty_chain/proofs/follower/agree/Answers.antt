use Rattle.std.proofs.Common.{sym, subst}
use Rattle.ty_chain.specs.Shown.{Within}
use Rattle.ty_chain.proofs.Shown.{within_more, agrees}
use Rattle.ty_chain.proofs.follower.agree.Goals as goal

pub returns-clause-same : goal.returns-clause-same
returns-clause-same g c =
    let one = c.meet.new.self in
    let two = c.args.other.now in
    let front = subst (Within two.crumb) (sym c.front.ensures.front) c.crumb-2.ensures.stands in
    let met = within_more two.crumb c.front.result.now one.known c.meet.ensures.met front in
    rw (c.crumb.ensures.crumb, c.crumb-2.ensures.crumb) (agrees one.crumb two.crumb one.known c.crumb.ensures.stands met)
