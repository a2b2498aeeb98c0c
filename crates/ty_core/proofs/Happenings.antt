-- One happening more.
use Rattle.std.proofs.Common.{◌≡◌, ℕ, List, [], ◌∷◌, ◌++◌, refl, sym, ap, subst, ◌∙◌, append_assoc, append-nil, false}
use Rattle.std.specs.Prelude.{None, Some}
use Rattle.std.proofs.lemmas.Grind.{flat_map-append}
use Rattle.ty_intake.specs.declared.intake.IntakeFault.{IntakeFault}
use Rattle.ty_script.specs.declared.event.Event.{Event}
use Rattle.ty_core.specs.declared.told.Told.{Told}
use Rattle.ty_core.specs.Run.{State, Happening, on, end, Ran, going, over, went, goes, run_from, run, no_state, next_state, finished, event_fault}
use Rattle.ty_core.specs.Report.{report_from, report, told_if_going, told_of}
use Rattle.ty_core.specs.Text.{lines, report_text}
use Rattle.ty_core.specs.Answers.{IsGoing}
use Rattle.ty_core.specs.Held.{RunStands, WorldHeld, RanStands, WorldStands}
use Rattle.ty_core.specs.steps.Runs.{RunTells, RunEnds}

run-more : (r : Ran) (hs : List Happening) (h : Happening) → run_from r (hs ++ h ∷ []) ≡ goes (run_from r hs) h
unfolding run_from
run-more r [] h = refl
run-more r (x ∷ hs) h = run-more (goes r x) hs h

-- the run behind one happening more
pub run-push : (hs : List Happening) (h : Happening) → run (hs ++ h ∷ []) ≡ goes (run hs) h
run-push hs h = run-more (going no_state) hs h

abbrev adds : Ran → Happening → List Told
adds r h = told_if_going (goes r h) (told_of r h)

report-more : (r : Ran) (hs : List Happening) (h : Happening) → report_from r (hs ++ h ∷ []) ≡ report_from r hs ++ adds (run_from r hs) h
unfolding run_from report_from
report-more r [] h = append-nil (adds r h)
report-more r (x ∷ hs) h =
    ap (λ (l : List Told). adds r x ++ l) (report-more (goes r x) hs h) ∙ sym (append_assoc (adds r x) (report_from (goes r x) hs) (adds (run_from (goes r x) hs) h))

-- and what the report adds
pub report-push : (hs : List Happening) (h : Happening) → report (hs ++ h ∷ []) ≡ report hs ++ adds (run hs) h
report-push hs h = report-more (going no_state) hs h

pub run-none : run [] ≡ going no_state
unfolding run_from
run-none = refl

-- A world without a fault stands for a run that goes on

pub record Goes (w : WorldHeld) (hs : List Happening) : Type 0 where
  pub state : State
  pub is : run hs ≡ going state
  pub stands : RunStands w.run state

pub going_of : (w : WorldHeld) (hs : List Happening) → w.fault ≡ None → WorldStands w hs → Goes w hs
going_of w hs none st = by_run (run hs) refl st.1
  where
    by_run : (r : Ran) → run hs ≡ r → RanStands w r → Goes w hs
    by_run (going s) e x = record { state = s; is = e; stands = x.1 }
    by_run (over f) e x = cc

going_on : (w : WorldHeld) (hs : List Happening) (s : State) → run hs ≡ going s → WorldStands w hs → RunStands w.run s
going_on w hs s e st = (subst (RanStands w) e st.1).1

pub began : (w : WorldHeld) → w.spent ≡ false → w.fault ≡ None → RunStands w.run no_state → WorldStands w []
began w s f st = (s, subst (RanStands w) (sym run-none) (f, st))

-- One event

pub record Ran_on (w : WorldHeld) (hs : List Happening) (h : Happening) (text : List ℕ) : Type 0 where
  pub runs : WorldStands w (hs ++ h ∷ [])
  pub goes_on : IsGoing (run (hs ++ h ∷ []))
  pub tells : report_text (report (hs ++ h ∷ [])) ≡ report_text (report hs) ++ text

ran_by : (w : WorldHeld) (hs : List Happening) (h : Happening) (text : List ℕ) (s : State) → w.spent ≡ false → w.fault ≡ None → goes (run hs) h ≡ going s → RunStands w.run s → text ≡ report_text (told_of (run hs) h) → Ran_on w hs h text
ran_by w hs h text s sp f e st t =
    let now : run (hs ++ h ∷ []) ≡ going s = run-push hs h ∙ e in
    record {
      runs = (sp, subst (RanStands w) (sym now) (f, st));
      goes_on = subst IsGoing (sym now) tt;
      tells = ap report_text (report-push hs h)
          ∙ flat_map-append lines (report hs) (adds (run hs) h)
          ∙ ap (λ (r : Ran). report_text (report hs) ++ report_text (told_if_going r (told_of (run hs) h))) e
          ∙ ap (λ l. report_text (report hs) ++ l) (sym t);
    }

pub ran_event : (w w' : WorldHeld) (hs : List Happening) (e : Event) (text : List ℕ) → w.fault ≡ None → w'.spent ≡ false → w'.fault ≡ None → ((s : State) → RunStands w.run s → RunTells w'.run s e text) → WorldStands w hs → Ran_on w' hs (on e) text
ran_event w w' hs e text none sp f tells st =
    let g : Goes w hs = going_of w hs none st in
    let x : RunTells w'.run g.state e text = tells g.state g.stands in
    ran_by w' hs (on e) text (next_state g.state e) sp f
    (ap (λ (r : Ran). goes r (on e)) g.is ∙ ap (λ o. went o (next_state g.state e)) x.good)
    x.stands
    (x.text_is ∙ ap (λ (r : Ran). report_text (told_of r (on e))) (sym g.is))

pub ran_end : (w w' : WorldHeld) (hs : List Happening) (text : List ℕ) → w.fault ≡ None → w'.spent ≡ false → w'.fault ≡ None → ((s : State) → RunStands w.run s → RunEnds w'.run s text) → WorldStands w hs → Ran_on w' hs end text
ran_end w w' hs text none sp f tells st =
    let g : Goes w hs = going_of w hs none st in
    let x : RunEnds w'.run g.state text = tells g.state g.stands in
    ran_by w' hs end text (finished g.state) sp f (ap (λ (r : Ran). goes r end) g.is) x.stands (x.text_is ∙ ap (λ (r : Ran). report_text (told_of r end)) (sym g.is))

pub faulty : (w : WorldHeld) (hs : List Happening) (e : Event) (f : IntakeFault) → w.fault ≡ None → ((s : State) → RunStands w.run s → event_fault s e ≡ Some f) → WorldStands w hs → run (hs ++ on e ∷ []) ≡ over f
faulty w hs e f none faults st =
    let g : Goes w hs = going_of w hs none st in
    run-push hs (on e) ∙ ap (λ (r : Ran). goes r (on e)) g.is ∙ ap (λ o. went o (next_state g.state e)) (faults g.state g.stands)

-- Behind a fault

pub over_of : (w : WorldHeld) (hs : List Happening) (f : IntakeFault) → w.fault ≡ Some f → WorldStands w hs → run hs ≡ over f
over_of w hs f is st = by_run (run hs) refl st.1
  where
    by_run : (r : Ran) → run hs ≡ r → RanStands w r → run hs ≡ over f
    by_run (going s) e x = cc
    by_run (over g) e x = e ∙ ap over (same g x)
      where
        same : (g : IntakeFault) → w.fault ≡ Some g → g ≡ f
        same g y = cc

pub stays_over : (w : WorldHeld) (hs : List Happening) (h : Happening) (f : IntakeFault) → w.fault ≡ Some f → WorldStands w hs → run (hs ++ h ∷ []) ≡ over f
stays_over w hs h f is st = run-push hs h ∙ ap (λ (r : Ran). goes r h) (over_of w hs f is st)

pub stands_over : (w : WorldHeld) (hs : List Happening) (f : IntakeFault) → w.spent ≡ false → w.fault ≡ Some f → run hs ≡ over f → WorldStands w hs
stands_over w hs f sp is e = (sp, subst (RanStands w) (sym e) is)
