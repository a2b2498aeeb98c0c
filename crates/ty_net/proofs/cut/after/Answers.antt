use Rattle.std.proofs.Common.{◌+◌, drop, sym, ap, ◌∙◌, arith, length-drop}
use Rattle.std.proofs.lemmas.List.{take_all, drop_all}
use Rattle.ty_net.proofs.Places.{found_at, found_nowhere}
use Rattle.ty_net.proofs.cut.after.Goals as goal

pub returns-in-Some : goal.returns-in-Some
returns-in-Some c =
    take_all _ (drop (c.in-Some.place + 1) c.args.text.now) (omega (arith, length-drop (c.in-Some.place + 1) c.args.text.now))
    ∙ ap (λ k. drop (k + 1) c.args.text.now) (sym (found_at _ c.args.text.now c.in-Some.place c.in-Some.ensures))

pub returns-in-None : goal.returns-in-None
returns-in-None c =
    let past = found_nowhere _ c.args.text.now c.in-None.ensures in
    sym (drop_all _ c.args.text.now (omega (arith, past)))
