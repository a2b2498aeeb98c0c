use Rattle.std.proofs.Common.{◌≡◌, ◌++◌, ◌∷◌, [], refl, sym, subst}
use Rattle.std.specs.Prelude.{Some}
use Rattle.ty_core.specs.Run.{on}
use Rattle.ty_core.specs.Held.{WorldHeld, WorldStands}
use Rattle.ty_core.proofs.Happenings.{ran_event, faulty, stays_over, stands_over}
use Rattle.ty_core.proofs.world.World.event.Goals as goal

pub returns-in-Some-clause-fault : goal.returns-in-Some-clause-fault
returns-in-Some-clause-fault c = λ hs st.
    stays_over c.args.self.now hs (on c.args.e.now) c.in-Some.fault (subst (λ (w : WorldHeld). w.fault ≡ Some c.in-Some.fault) c.self.view_is c.in-Some.is) st

pub returns-in-Some-clause-faulty : goal.returns-in-Some-clause-faulty
returns-in-Some-clause-faulty c = λ hs st.
    let is = subst (λ (w : WorldHeld). w.fault ≡ Some c.in-Some.fault) c.self.view_is c.in-Some.is in
    stands_over c.args.self.now (hs ++ on c.args.e.now ∷ []) c.in-Some.fault st.0 is (stays_over c.args.self.now hs (on c.args.e.now) c.in-Some.fault is st)

pub returns-in-Ok-clause-runs : goal.returns-in-Ok-clause-runs
returns-in-Ok-clause-runs c = λ hs st.
    (ran_event _ _ hs c.args.e.now c.in-Ok.text c.in_default.is c.if-self.false c.in_default.is c.in-Ok.ensures.tells (subst (λ (w : WorldHeld). WorldStands w hs) (sym c.self.view_is) st)).runs

pub returns-in-Ok-clause-goes : goal.returns-in-Ok-clause-goes
returns-in-Ok-clause-goes c = λ hs st.
    (ran_event _ (record { run = c.tell.new.run; fault = c.self.inside.fault; spent = c.self.inside.spent }) hs c.args.e.now c.in-Ok.text c.in_default.is c.if-self.false c.in_default.is c.in-Ok.ensures.tells (subst (λ (w : WorldHeld). WorldStands w hs) (sym c.self.view_is) st)).goes_on

pub returns-in-Ok-clause-tells : goal.returns-in-Ok-clause-tells
returns-in-Ok-clause-tells c = λ hs st.
    (ran_event _ (record { run = c.tell.new.run; fault = c.self.inside.fault; spent = c.self.inside.spent }) hs c.args.e.now c.in-Ok.text c.in_default.is c.if-self.false c.in_default.is c.in-Ok.ensures.tells (subst (λ (w : WorldHeld). WorldStands w hs) (sym c.self.view_is) st)).tells

pub returns-in-Err-Feed-clause-fault : goal.returns-in-Err-Feed-clause-fault
returns-in-Err-Feed-clause-fault c = λ hs st.
    faulty _ hs c.args.e.now c.in-Err-Feed.fault c.in_default.is (rw c.in-Err-Feed.field-0-is at c.in-Err-Feed.ensures.fault) (subst (λ (w : WorldHeld). WorldStands w hs) (sym c.self.view_is) st)

pub returns-in-Err-Feed-clause-faulty : goal.returns-in-Err-Feed-clause-faulty
returns-in-Err-Feed-clause-faulty c = λ hs st.
    stands_over _ (hs ++ on c.args.e.now ∷ []) c.in-Err-Feed.fault c.if-self.false refl
    (faulty (record { run = c.self.inside.run; fault = c.self.inside.fault; spent = c.self.inside.spent }) hs c.args.e.now c.in-Err-Feed.fault c.in_default.is (rw c.in-Err-Feed.field-0-is at c.in-Err-Feed.ensures.fault) (subst (λ (w : WorldHeld). WorldStands w hs) (sym c.self.view_is) st))
