-- One happening after another.
use Rattle.std.proofs.Common.{◌≡◌, List, [], ◌∷◌, ◌++◌, refl, sym, ap, subst, ◌∙◌, append_assoc, append-nil}
use Rattle.std.specs.Prelude.{Result, Ok, Err, None, Some}
use Rattle.ty_core.specs.declared.fault.WorldFault.{WorldFault}
use Rattle.ty_core.specs.declared.fault.WorldFault.TheVariants.{Feed, NoMemory}
use Rattle.ty_core.specs.Run.{no_state, Happening, Ran, going, over, goes, run, run_from}
use Rattle.ty_core.specs.Answers.{IfFeed, IsGoing}
use Rattle.ty_core.specs.Held.{WorldHeld, RanStands, WorldStands}
use Rattle.ty_load.specs.steps.Plans.{Plan, always, then, Stands, Done, Ends, Does, Reached, IsOwed}

pub run-append : (r : Ran) (a b : List Happening) → run_from r (a ++ b) ≡ run_from (run_from r a) b
unfolding run_from
run-append r [] b = refl
run-append r (h ∷ a) b = run-append (goes r h) a b

over_stays : (r : Ran) (hs : List Happening) → (IsGoing r → ⊥) → run_from r hs ≡ r
unfolding run_from
over_stays (going s) hs h = absurd (h tt)
over_stays (over f) [] h = refl
over_stays (over f) (x ∷ hs) h = over_stays (over f) hs h

-- behind these happenings
behind : (at : List Happening) (p q : Plan) → at ++ then p q (run at) ≡ (at ++ p (run at)) ++ q (run (at ++ p (run at)))
behind at p q =
    ap (λ (r : Ran). at ++ (p (run at) ++ q r)) (sym (run-append (going no_state) at (p (run at))))
    ∙ sym (append_assoc at (p (run at)) (q (run (at ++ p (run at)))))

-- One happening

stands_going : (w : WorldHeld) (hs : List Happening) → WorldStands w hs → IsGoing (run hs) → Stands w hs
stands_going w hs st g = by_run (run hs) refl g
  where
    by_run : (r : Ran) → run hs ≡ r → IsGoing r → Stands w hs
    by_run (going s) e g = record { state = s; is = e; world = st }
    by_run (over f) e g = absurd g

pub happens : (w w' : WorldHeld) (h : Happening) → ((hs : List Happening) → WorldStands w hs → WorldStands w' (hs ++ h ∷ [])) → ((hs : List Happening) → WorldStands w hs → IsGoing (run (hs ++ h ∷ [])))
    → (hs : List Happening) → Stands w hs → Stands w' (hs ++ h ∷ [])
happens w w' h runs goes_on hs st = stands_going w' (hs ++ h ∷ []) (runs hs st.world) (goes_on hs st.world)

pub faults : (w : WorldHeld) (h : Happening) (e : WorldFault) → IfFeed e (λ f. (hs : List Happening) → WorldStands w hs → run (hs ++ h ∷ []) ≡ over f) → Ends e w (always (h ∷ []))
faults w h (Feed f) d = λ hs st. d hs st.world
faults w h NoMemory d = tt

-- a run that goes on has no fault
pub no_faults : (w : WorldHeld) (p : Plan) (e : WorldFault) → IfFeed e (λ f. w.fault ≡ Some f) → Ends e w p
no_faults w p (Feed f) d = λ hs st.
    let none : w.fault ≡ None = (subst (RanStands w) st.is st.world.1).0 in
    absurd (let two : None ≡ Some f = sym none ∙ d in cc)
no_faults w p NoMemory d = tt

-- What is owed

pub begins : (w : WorldHeld) (left all : Plan) → ((hs : List Happening) → Stands w hs → left (run hs) ≡ all (run hs)) → IsOwed w w left all
begins w left all e = record {
  reached = λ hs st. record { at = hs; stands = st; is = ap (λ l. hs ++ l) (e hs st) };
}

pub begins_all : (w : WorldHeld) (all : Plan) → IsOwed w w all all
begins_all w all = begins w all all (λ hs st. refl)

-- what is left is one part, and then the rest
pub goes_on : (old now new : WorldHeld) (p rest left all : Plan) → ((r : Ran) → left r ≡ then p rest r) → IsOwed old now left all → Done now new p → IsOwed old new rest all
goes_on old now new p rest left all e o d = record {
  reached = λ hs st.
      let x : Reached now hs left all = o.reached hs st in
      record {
        at = x.at ++ p (run x.at);
        stands = d x.at x.stands;
        is = sym (behind x.at p rest) ∙ ap (λ l. x.at ++ l) (sym (e (run x.at))) ∙ x.is;
      };
}

pub breaks : (old now : WorldHeld) (p rest left all : Plan) (e : WorldFault) → ((r : Ran) → left r ≡ then p rest r) → IsOwed old now left all → Ends e now p → Ends e old all
breaks old now p rest left all (Feed f) e o d = λ hs st.
    let x : Reached now hs left all = o.reached hs st in
    let at : List Happening = x.at ++ p (run x.at) in
    ap run (sym x.is ∙ ap (λ l. x.at ++ l) (e (run x.at)) ∙ behind x.at p rest)
    ∙ run-append (going no_state) at (rest (run at))
    ∙ ap (λ (r : Ran). run_from r (rest (run at))) (d x.at x.stands)
    ∙ over_stays (over f) (rest (run at)) (λ g. g)
breaks old now p rest left all NoMemory e o d = tt

-- what is left is the last part
pub ends : {A : Type 0} (r : Result A WorldFault) (old now new : WorldHeld) (p all : Plan) → IsOwed old now p all → Does r now new p → Does r old new all
ends (Ok a) old now new p all o d = λ hs st.
    let x : Reached now hs p all = o.reached hs st in
    subst (Stands new) x.is (d x.at x.stands)
ends (Err (Feed f)) old now new p all o d = λ hs st.
    let x : Reached now hs p all = o.reached hs st in
    ap run (sym x.is) ∙ d x.at x.stands
ends (Err NoMemory) old now new p all o d = tt

-- nothing is left
pub is_done : (old now : WorldHeld) (left all : Plan) → ((r : Ran) → left r ≡ []) → IsOwed old now left all → Done old now all
is_done old now left all e o = λ hs st.
    let x : Reached now hs left all = o.reached hs st in
    subst (Stands now) (sym (append-nil x.at) ∙ ap (λ l. x.at ++ l) (sym (e (run x.at))) ∙ x.is) x.stands

pub nothing : (w : WorldHeld) (all : List Happening) → all ≡ [] → (hs : List Happening) → Stands w hs → Stands w (hs ++ all)
nothing w all e hs st = subst (Stands w) (sym (append-nil hs) ∙ ap (λ l. hs ++ l) (sym e)) st
