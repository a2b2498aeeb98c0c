use Rattle.std.proofs.Common.{sym, subst}
use Rattle.ty_core.specs.Held.{WorldHeld, WorldStands}
use Rattle.ty_core.proofs.Happenings.{ran_end}
use Rattle.ty_core.proofs.world.World.finish.Goals as goal

pub returns-in-Ok-clause-runs : goal.returns-in-Ok-clause-runs
returns-in-Ok-clause-runs c = λ hs st.
    (ran_end _ _ hs c.in-Ok.text c.in_default.is c.if-self.false c.in_default.is c.in-Ok.ensures (subst (λ (w : WorldHeld). WorldStands w hs) (sym c.self.view_is) st)).runs

pub returns-in-Ok-clause-goes : goal.returns-in-Ok-clause-goes
returns-in-Ok-clause-goes c = λ hs st.
    (ran_end _ (record { run = c.tell_end.new.run; fault = c.self.inside.fault; spent = c.self.inside.spent }) hs c.in-Ok.text c.in_default.is c.if-self.false c.in_default.is c.in-Ok.ensures (subst (λ (w : WorldHeld). WorldStands w hs) (sym c.self.view_is) st)).goes_on

pub returns-in-Ok-clause-tells : goal.returns-in-Ok-clause-tells
returns-in-Ok-clause-tells c = λ hs st.
    (ran_end _ (record { run = c.tell_end.new.run; fault = c.self.inside.fault; spent = c.self.inside.spent }) hs c.in-Ok.text c.in_default.is c.if-self.false c.in_default.is c.in-Ok.ensures (subst (λ (w : WorldHeld). WorldStands w hs) (sym c.self.view_is) st)).tells
