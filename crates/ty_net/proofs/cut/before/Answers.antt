use Rattle.std.proofs.Common.{take, sym, ap}
use Rattle.std.proofs.lemmas.List.{take_all}
use Rattle.ty_net.proofs.Places.{found_at, found_nowhere}
use Rattle.ty_net.proofs.cut.before.Goals as goal

pub returns-in-Some : goal.returns-in-Some
returns-in-Some c = ap (λ k. take k c.args.text.now) (sym (found_at _ c.args.text.now c.in-Some.place c.in-Some.ensures))

pub returns-in-None : goal.returns-in-None
returns-in-None c = sym (take_all _ c.args.text.now (found_nowhere _ c.args.text.now c.in-None.ensures))
