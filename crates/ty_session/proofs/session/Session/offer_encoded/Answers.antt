use Rattle.ty_session.proofs.Held.{offers_as}
use Rattle.ty_session.proofs.session.Session.offer_encoded.Goals as goal

pub returns-clause-goes_on : goal.returns-clause-goes_on
returns-clause-goes_on c d s e st j cr = offers_as c.args.self.now c.enter_encoded.new.self s e c.args.crumb.now c.args.encoded.now c.args.now c.in-Ok.ensures.ok d st j cr
