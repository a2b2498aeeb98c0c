-- Lines of a script with others behind: what they say and show, and what is told of them.
use Rattle.std.proofs.Common.{◌≡◌, ℕ, ◌+◌, ◌≤◌, List, [], ◌∷◌, ◌++◌, length, map, refl, sym, ap, subst, ◌∙◌, append_assoc, append-nil, arith, length-append, true, false, le-ltb}
use Rattle.std.proofs.lemmas.List.{map-append}
use Rattle.std.proofs.lemmas.Grind.{flat_map-append}
use Rattle.std.specs.Prelude.{Option, None, Some, if◌then◌else◌}
use Rattle.std.specs.Str.{IsUtf8, is_utf8}
use Rattle.std.proofs.lemmas.Str.{IsUtf8-from_is_utf8}
use Rattle.std.specs.Option.{option_or}
use Rattle.ty_base.specs.declared.limits.TheConstants.{LINE_BYTES}
use Rattle.ty_intake.specs.Faults.{is_too_long}
use Rattle.ty_intake.specs.declared.intake.IntakeFault.{IntakeFault}
use Rattle.ty_intake.specs.declared.intake.IntakeFault.TheVariants.{BadUtf8}
use Rattle.ty_intake.proofs.Lines.{not_true}
use Rattle.ty_script.specs.Fits.{FitsScript}
use Rattle.ty_script.specs.Script.{is_like_feed, words, event_of_words, event_of}
use Rattle.ty_script.specs.declared.event.Event.{Event}
use Rattle.ty_script.specs.declared.event.Event.TheVariants.{Line, Join, Step, Get, Hear, Cut, Tick}
use Rattle.ty_script.specs.declared.event.TheConstants.{TICK_MILLISECONDS}
use Rattle.ty_core.specs.Run.{State, Happening, on, Ran, going, over, went, goes, run_from, run, no_state, next_state, event_fault}
use Rattle.ty_core.specs.Report.{report_from, report, told_if_going, told_of}
use Rattle.ty_core.specs.Text.{lines, report_text}
use Rattle.ty_core.specs.Answers.{IsGoing}
use Rattle.ty_core.specs.Held.{WorldHeld, WorldStands}
use Rattle.ty_core.specs.Script.{event_said, says_none, told_at_line, and_then_events, events_of, ran_by, script_line_fault, lines_fault}
use Rattle.ty_core.specs.steps.Scripts.{happenings_in, report_in, first_fault_in, AreRun, SaysNone}
use Rattle.ty_core.specs.declared.simulation.SimFault.{SimFault}
use Rattle.ty_core.specs.declared.simulation.SimFault.TheVariants.{Event as NotEvent, Feed as FeedFault, LongLine}
use Rattle.ty_core.specs.declared.stop.Stop.TheVariants.{Fault}
use Rattle.ty_core.proofs.Happenings.{run-push}

pub both_none : {A : Type 0} (a b : Option A) → option_or a b ≡ None → (a ≡ None) × (b ≡ None)
both_none None b h = (refl, h)
both_none (Some x) b h = cc

pub or_none : {A : Type 0} (a : Option A) → option_or a None ≡ a
or_none None = refl
or_none (Some x) = refl

-- What they say

events_step : (l : List ℕ) (ls ms : List (List ℕ)) (n : ℕ) (o : Option Event) (r : Ran) → ((r : Ran) → lines_fault r (n + 1) ls ≡ None → events_of (ls ++ ms) ≡ events_of ls ++ events_of ms)
    → option_or (script_line_fault (n + 1) l o (ran_by r o)) (lines_fault (ran_by r o) (n + 1) ls) ≡ None
    → and_then_events o (events_of (ls ++ ms)) ≡ and_then_events o (events_of ls) ++ events_of ms
events_step l ls ms n None r more h = cc
events_step l ls ms n (Some e) r more h = ap (λ es. e ∷ es) (more (goes r (on e)) (both_none (script_line_fault (n + 1) l (Some e) (goes r (on e))) (lines_fault (goes r (on e)) (n + 1) ls) h).1)

-- lines without a fault, and others
pub events_more : (ls ms : List (List ℕ)) (n : ℕ) (r : Ran) → lines_fault r n ls ≡ None → events_of (ls ++ ms) ≡ events_of ls ++ events_of ms
unfolding events_of lines_fault
events_more [] ms n r h = refl
events_more (l ∷ ls) ms n r h = events_step l ls ms n (event_said l) r (λ q. events_more ls ms (n + 1) q) h

front_step : (ls ms : List (List ℕ)) (o : Option Event) → (x : List Event) × (events_of (ls ++ ms) ≡ events_of ls ++ x) → (x : List Event) × (and_then_events o (events_of (ls ++ ms)) ≡ and_then_events o (events_of ls) ++ x)
front_step ls ms None more = ([], refl)
front_step ls ms (Some e) more = (more.0, ap (λ es. e ∷ es) more.1)

-- any lines, and others
pub events_front : (ls ms : List (List ℕ)) → (x : List Event) × (events_of (ls ++ ms) ≡ events_of ls ++ x)
unfolding events_of
events_front [] ms = (events_of ms, refl)
events_front (l ∷ ls) ms = front_step ls ms (event_said l) (events_front ls ms)

pub happenings_front : (ls ms : List (List ℕ)) → (x : List Happening) × (happenings_in (ls ++ ms) ≡ happenings_in ls ++ x)
happenings_front ls ms =
    let f = events_front ls ms in
    (map on f.0, ap (map on) f.1 ∙ map-append on (events_of ls) f.0)

-- What they show

or_right : {A : Type 0} (a b : Option A) → option_or a b ≡ None → option_or a b ≡ b
or_right None b h = refl
or_right (Some x) b h = cc

fault_step : (l : List ℕ) (ls ms : List (List ℕ)) (n : ℕ) (o : Option Event) (r : Ran)
    → ((r : Ran) → lines_fault r (n + 1) ls ≡ None → lines_fault r (n + 1) (ls ++ ms) ≡ lines_fault (run_from r (map on (events_of ls))) (n + 1 + length ls) ms)
    → option_or (script_line_fault (n + 1) l o (ran_by r o)) (lines_fault (ran_by r o) (n + 1) ls) ≡ None
    → option_or (script_line_fault (n + 1) l o (ran_by r o)) (lines_fault (ran_by r o) (n + 1) (ls ++ ms)) ≡ lines_fault (run_from r (map on (and_then_events o (events_of ls)))) (n + 1 + length ls) ms
unfolding run_from
fault_step l ls ms n None r more h = cc
fault_step l ls ms n (Some e) r more h =
    let b = both_none (script_line_fault (n + 1) l (Some e) (goes r (on e))) (lines_fault (goes r (on e)) (n + 1) ls) h in
    ap (λ a. option_or a (lines_fault (goes r (on e)) (n + 1) (ls ++ ms))) b.0 ∙ more (goes r (on e)) b.1

-- lines without a fault, and others
pub fault_more : (ls ms : List (List ℕ)) (n : ℕ) (r : Ran) → lines_fault r n ls ≡ None
    → lines_fault r n (ls ++ ms) ≡ lines_fault (run_from r (happenings_in ls)) (n + length ls) ms
unfolding events_of lines_fault run_from
fault_more [] ms n r h = let e : n ≡ n + 0 = omega arith in ap (λ k. lines_fault r k ms) e
fault_more (l ∷ ls) ms n r h =
    let e : n + 1 + length ls ≡ n + length (l ∷ ls) = omega arith in
    fault_step l ls ms n (event_said l) r (λ q. fault_more ls ms (n + 1) q) h
    ∙ ap (λ k. lines_fault (run_from r (map on (and_then_events (event_said l) (events_of ls)))) k ms) e

stays_step : (a b c : Option SimFault) (f : SimFault) → (b ≡ Some f → c ≡ Some f) → option_or a b ≡ Some f → option_or a c ≡ Some f
stays_step None b c f more h = more h
stays_step (Some g) b c f more h = h

-- lines with a fault, and others
pub fault_stays : (ls ms : List (List ℕ)) (n : ℕ) (r : Ran) (f : SimFault) → lines_fault r n ls ≡ Some f → lines_fault r n (ls ++ ms) ≡ Some f
unfolding lines_fault
fault_stays [] ms n r f h = cc
fault_stays (l ∷ ls) ms n r f h =
    stays_step (script_line_fault (n + 1) l (event_said l) (ran_by r (event_said l))) (lines_fault (ran_by r (event_said l)) (n + 1) ls) (lines_fault (ran_by r (event_said l)) (n + 1) (ls ++ ms)) f
    (fault_stays ls ms (n + 1) (ran_by r (event_said l)) f) h

-- What is told

nothing_over : (f : IntakeFault) (hs : List Happening) → report_from (over f) hs ≡ []
unfolding report_from
nothing_over f [] = refl
nothing_over f (h ∷ hs) = nothing_over f hs

pub report_more : (r : Ran) (hs more : List Happening) → report_from r (hs ++ more) ≡ report_from r hs ++ report_from (run_from r hs) more
unfolding run_from report_from
report_more r [] more = refl
report_more r (h ∷ hs) more =
    let adds = told_if_going (goes r h) (told_of r h) in
    ap (λ ts. adds ++ ts) (report_more (goes r h) hs more) ∙ sym (append_assoc adds (report_from (goes r h) hs) (report_from (run_from (goes r h) hs) more))

-- the report of more happenings begins with that of these
pub text_more : (hs more : List Happening) → (x : List ℕ) × (report_text (report (hs ++ more)) ≡ report_text (report hs) ++ x)
text_more hs more = (
  report_text (report_from (run hs) more),
  ap report_text (report_more (going no_state) hs more) ∙ flat_map-append lines (report hs) (report_from (run hs) more),
)

told_behind : (l : List ℕ) (ls ms : List (List ℕ)) (n : ℕ) (e : Event) (f : SimFault) (r : Ran)
    → (lines_fault r (n + 1) ls ≡ Some f → report_from r (map on (events_of (ls ++ ms))) ≡ report_from r (map on (events_of ls)))
    → option_or (script_line_fault (n + 1) l (Some e) r) (lines_fault r (n + 1) ls) ≡ Some f
    → report_from r (map on (events_of (ls ++ ms))) ≡ report_from r (map on (events_of ls))
told_behind l ls ms n e f (going s) more h = more h
told_behind l ls ms n e f (over g) more h = nothing_over g (map on (events_of (ls ++ ms))) ∙ sym (nothing_over g (map on (events_of ls)))

told_step : (l : List ℕ) (ls ms : List (List ℕ)) (n : ℕ) (o : Option Event) (f : SimFault) (r : Ran)
    → ((r : Ran) → lines_fault r (n + 1) ls ≡ Some f → report_from r (map on (events_of (ls ++ ms))) ≡ report_from r (map on (events_of ls)))
    → option_or (script_line_fault (n + 1) l o (ran_by r o)) (lines_fault (ran_by r o) (n + 1) ls) ≡ Some f
    → report_from r (map on (and_then_events o (events_of (ls ++ ms)))) ≡ report_from r (map on (and_then_events o (events_of ls)))
unfolding report_from
told_step l ls ms n None f r more h = refl
told_step l ls ms n (Some e) f r more h =
    ap (λ ts. told_if_going (goes r (on e)) (told_of r (on e)) ++ ts) (told_behind l ls ms n e f (goes r (on e)) (more (goes r (on e))) h)

told_stays : (ls ms : List (List ℕ)) (n : ℕ) (f : SimFault) (r : Ran) → lines_fault r n ls ≡ Some f → report_from r (map on (events_of (ls ++ ms))) ≡ report_from r (map on (events_of ls))
unfolding events_of lines_fault
told_stays [] ms n f r h = cc
told_stays (l ∷ ls) ms n f r h = told_step l ls ms n (event_said l) f r (told_stays ls ms (n + 1) f) h

-- nothing is told behind a fault
pub report_stays : (ls ms : List (List ℕ)) (f : SimFault) → first_fault_in ls ≡ Some f → report_in (ls ++ ms) ≡ report_in ls
report_stays ls ms f h = ap report_text (told_stays ls ms 0 f (going no_state) h)

-- the report of more lines begins with that of these
pub report_front : (ls ms : List (List ℕ)) → (x : List ℕ) × (report_in (ls ++ ms) ≡ report_in ls ++ x)
report_front ls ms =
    let f = happenings_front ls ms in
    let t = text_more (happenings_in ls) f.0 in
    (t.0, ap (λ hs. report_text (report hs)) f.1 ∙ t.1)

-- One line more

abbrev also : List (List ℕ) → List ℕ → List (List ℕ)
also ls line = ls ++ line ∷ []

pub said_more : (ls : List (List ℕ)) (line : List ℕ) (o : Option Event) → first_fault_in ls ≡ None → event_said line ≡ o → happenings_in (also ls line) ≡ happenings_in ls ++ map on (and_then_events o [])
unfolding events_of
said_more ls line o good says =
    ap (map on) (events_more ls (line ∷ []) 0 (going no_state) good)
    ∙ map-append on (events_of ls) (events_of (line ∷ []))
    ∙ ap (λ p. happenings_in ls ++ map on (and_then_events p [])) says

shown_more : (ls : List (List ℕ)) (line : List ℕ) (o : Option Event) → first_fault_in ls ≡ None → event_said line ≡ o
    → first_fault_in (also ls line) ≡ option_or (script_line_fault (length ls + 1) line o (ran_by (run (happenings_in ls)) o)) None
unfolding lines_fault
shown_more ls line o good says =
    let n : 0 + length ls ≡ length ls = omega arith in
    fault_more ls (line ∷ []) 0 (going no_state) good
    ∙ ap (λ k. option_or (script_line_fault (k + 1) line (event_said line) (ran_by (run (happenings_in ls)) (event_said line))) None) n
    ∙ ap (λ p. option_or (script_line_fault (length ls + 1) line p (ran_by (run (happenings_in ls)) p)) None) says

-- the line says no event
pub fault_none : (ls : List (List ℕ)) (line : List ℕ) → first_fault_in ls ≡ None → event_said line ≡ None → first_fault_in (also ls line) ≡ Some (says_none (length ls + 1) line)
fault_none ls line good says = shown_more ls line None good says

-- the event brings a fault
pub fault_over : (ls : List (List ℕ)) (line : List ℕ) (e : Event) (f : IntakeFault) → first_fault_in ls ≡ None → event_said line ≡ Some e → run (happenings_in ls ++ on e ∷ []) ≡ over f
    → first_fault_in (also ls line) ≡ Some (told_at_line (length ls + 1) f)
fault_over ls line e f good says ends =
    shown_more ls line (Some e) good says
    ∙ ap (λ (r : Ran). option_or (script_line_fault (length ls + 1) line (Some e) r) None) (sym (run-push (happenings_in ls) (on e)) ∙ ends)

-- and tells nothing
pub report_over : (ls : List (List ℕ)) (line : List ℕ) (e : Event) (f : IntakeFault) → first_fault_in ls ≡ None → event_said line ≡ Some e → run (happenings_in ls ++ on e ∷ []) ≡ over f
    → report_in (also ls line) ≡ report_in ls
unfolding report_from
report_over ls line e f good says ends =
    let r : Ran = run (happenings_in ls) in
    let h : Happening = on e in
    ap (λ hs. report_text (report hs)) (said_more ls line (Some e) good says)
    ∙ ap report_text (report_more (going no_state) (happenings_in ls) (h ∷ []))
    ∙ ap (λ (q : Ran). report_text (report (happenings_in ls) ++ (told_if_going q (told_of r h) ++ []))) (sym (run-push (happenings_in ls) h) ∙ ends)
    ∙ ap report_text (append-nil (report (happenings_in ls)))

-- the time that an event of a script lets pass
pub after_early : (s : State) (line : List ℕ) (e : Event) → FitsScript line e → (next_state s e).now ≤ s.now + TICK_MILLISECONDS
after_early s line (Line text) f = omega arith
after_early s line (Join c) f = omega arith
after_early s line (Step c) f = omega arith
after_early s line (Get c n) f = omega arith
after_early s line (Hear c) f = omega arith
after_early s line (Cut c) f = omega arith
after_early s line (Tick ms) f = omega (arith, f.1)

went_on : (o : Option IntakeFault) (s : State) → IsGoing (went o s) → went o s ≡ going s
went_on None s g = refl
went_on (Some f) s g = absurd g

pub line_run : (old new : WorldHeld) (ls : List (List ℕ)) (line : List ℕ) (e : Event) → AreRun old ls → event_said line ≡ Some e → FitsScript line e
    → WorldStands new (happenings_in ls ++ on e ∷ []) → IsGoing (run (happenings_in ls ++ on e ∷ [])) → AreRun new (also ls line)
line_run old new ls line e a says fits stands goes_on =
    let s : State = a.state in
    let all : happenings_in (also ls line) ≡ happenings_in ls ++ on e ∷ [] = said_more ls line (Some e) a.good says in
    let before : run (happenings_in ls ++ on e ∷ []) ≡ goes (going s) (on e) = run-push (happenings_in ls) (on e) ∙ ap (λ (r : Ran). goes r (on e)) a.ran in
    let now : run (happenings_in ls ++ on e ∷ []) ≡ going (next_state s e) = before ∙ went_on (event_fault s e) (next_state s e) (subst IsGoing before goes_on) in
    record {
      state = next_state s e;
      ran = ap run all ∙ now;
      good = shown_more ls line (Some e) a.good says
          ∙ ap (λ (r : Ran). option_or (script_line_fault (length ls + 1) line (Some e) r) None) (sym (run-push (happenings_in ls) (on e)) ∙ now);
      stands = subst (λ hs. WorldStands new hs) (sym all) stands;
      early = omega (arith, a.early, after_early s line e fits, length-append ls (line ∷ []));
    }

-- A line that isn't UTF-8

not_said : (line : List ℕ) → is_too_long line ≡ false → is_like_feed line ≡ true → ¬ (IsUtf8 line) → event_said line ≡ None
unfolding event_of
not_said line short like broken =
    let odd : is_utf8 line ≡ false = not_true (is_utf8 line) (λ e. broken (IsUtf8-from_is_utf8 line e)) in
    ap (λ b. if b then None else event_of line) short
    ∙ ap (λ b. if b then (if is_utf8 line then Some (Line line) else None) else event_of_words (words line)) like
    ∙ ap (λ b. if b then Some (Line line) else None) odd

pub says_broken : (n : ℕ) (line : List ℕ) → length line ≤ LINE_BYTES → is_like_feed line ≡ true → ¬ (IsUtf8 line) → SaysNone (Fault (FeedFault n (BadUtf8 n))) n line
says_broken n line h like broken =
    let short : is_too_long line ≡ false = le-ltb LINE_BYTES (length line) h in (
      not_said line short like broken,
      sym (ap (λ b. if b then LongLine n else (if is_like_feed line then FeedFault n (BadUtf8 n) else NotEvent n)) short
          ∙ ap (λ b. if b then FeedFault n (BadUtf8 n) else NotEvent n) like),
    )
