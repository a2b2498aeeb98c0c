use Rattle.ty_session.proofs.Held.{admits, on_ok}
use Rattle.ty_session.proofs.session.Session.join.Goals as goal

pub returns-clause-joins : goal.returns-clause-joins
returns-clause-joins c = on_ok c.admit.result (λ e entries cr s st j. admits c.args.self.now c.admit.new.self c.args.crumb.now c.args.now e entries cr s st j) c.admit.ensures.ok
