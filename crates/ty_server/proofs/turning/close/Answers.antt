use Rattle.ty_server.proofs.Turns.{idles}
use Rattle.ty_server.proofs.turning.close.Goals as goal

pub returns-in-Ok-clause-works : goal.returns-in-Ok-clause-works
returns-in-Ok-clause-works c = λ now. idles {A = Unit {0}} now c.args.session.now c.idle.new.self tt c.in-Ok.ensures.idles
