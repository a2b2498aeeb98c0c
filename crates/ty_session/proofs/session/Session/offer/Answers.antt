use Rattle.ty_session.proofs.Held.{offers}
use Rattle.ty_session.proofs.session.Session.offer.Goals as goal

pub returns-clause-goes_on : goal.returns-clause-goes_on
returns-clause-goes_on c s e st j cr = offers c.args.self.now c.enter.new.self s e c.args.crumb.now c.args.now c.in-Ok.ensures.ok st j cr
