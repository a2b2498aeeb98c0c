-- One line of a script that is run in a world, and what is owed to a sink.
use Rattle.std.proofs.Common.{◌≡◌, ℕ, ◌+◌, ◌<◌, List, [], ◌∷◌, ◌++◌, length, sym, ap, subst, ◌∙◌, append_assoc, append-nil, arith}
use Rattle.std.specs.Prelude.{Option, None, Some, Result, Ok, Err, OnOk, IfErr}
use Rattle.std.specs.Io.KnownBytes.{Appends}
use Rattle.ty_base.specs.Fronts.{AppendsFront}
use Rattle.ty_base.specs.declared.limits.TheConstants.{INPUT_BYTES}
use Rattle.ty_base.proofs.Known.{Appends-then, AppendsFront-after}
use Rattle.ty_client.specs.steps.Given.{Owes}
use Rattle.ty_intake.specs.declared.intake.IntakeFault.{IntakeFault}
use Rattle.ty_script.specs.Fits.{IsEvent, FitsScript}
use Rattle.ty_script.specs.declared.event.Event.{Event}
use Rattle.ty_script.specs.declared.event.Event.TheVariants.{Line, Join, Step, Get, Hear, Cut, Tick}
use Rattle.ty_core.specs.Run.{on, over, run}
use Rattle.ty_core.specs.Report.{report}
use Rattle.ty_core.specs.Text.{report_text}
use Rattle.ty_core.specs.Answers.{IsGoing}
use Rattle.ty_core.specs.Held.{WorldHeld, RanStands, WorldStands}
use Rattle.ty_core.specs.Script.{event_said, says_none, told_at_line}
use Rattle.ty_core.specs.steps.Scripts.{happenings_in, report_in, first_fault_in, AreRun, SaysNone, IsLineRun}
use Rattle.ty_core.specs.declared.stop.Stop.{Stop}
use Rattle.ty_core.specs.declared.stop.Stop.TheVariants.{Fault, Sink, Memory}
use Rattle.ty_core.proofs.ScriptLines.{said_more, fault_none, fault_over, line_run, report_front, report_over}

-- What is owed

pub owes_more : (a b : Option (List ℕ)) (owed all text : List ℕ) → Owes a b owed all → Owes a b (owed ++ text) (all ++ text)
owes_more a b owed all text o = record {
  given = o.given;
  appended = o.appended;
  whole = sym (append_assoc o.given owed text) ∙ ap (λ l. l ++ text) o.whole;
}

pub owed_front : (a b : Option (List ℕ)) (owed all more : List ℕ) → Owes a b owed all → AppendsFront a b (all ++ more)
owed_front a b owed all more o = (o.given, owed ++ more, ap (λ l. l ++ more) (sym o.whole) ∙ append_assoc o.given owed more, o.appended)

pub owed_given : (a b c : Option (List ℕ)) (owed all : List ℕ) → Owes a b owed all → Appends b c owed → Appends a c all
owed_given a b c owed all o h = subst (λ (l : List ℕ). Appends a c l) o.whole (Appends-then a b c o.given owed o.appended h)

pub owed_part : (a b c : Option (List ℕ)) (owed all : List ℕ) → Owes a b owed all → AppendsFront b c owed → AppendsFront a c all
owed_part a b c owed all o h = subst (λ (l : List ℕ). AppendsFront a c l) o.whole (AppendsFront-after a b c o.given owed o.appended h)

pub owes_same : (a b : Option (List ℕ)) (owed all more : List ℕ) → all ≡ more → Owes a b owed all → Owes a b owed more
owes_same a b owed all more e o = record { given = o.given; appended = o.appended; whole = o.whole ∙ e }

-- One line

abbrev also : List (List ℕ) → List ℕ → List (List ℕ)
also ls line = ls ++ line ∷ []

-- a front of what is owed of more lines
pub lines_front : (a b : Option (List ℕ)) (owed : List ℕ) (ls ms : List (List ℕ)) → Owes a b owed (report_in ls) → AppendsFront a b (report_in (ls ++ ms))
lines_front a b owed ls ms o =
    let f = report_front ls ms in
    subst (λ (l : List ℕ). AppendsFront a b l) (sym f.1) (owed_front a b owed (report_in ls) f.0 o)

-- an event that a script's line says can happen at the time
pub event_fits : (w : WorldHeld) (ls : List (List ℕ)) (n : ℕ) (line : List ℕ) (e : Event) → AreRun w ls → n ≡ length ls + 1 → n < INPUT_BYTES → FitsScript line e → IsEvent w.run.time e
event_fits w ls n line (Line text) a is few f = tt
event_fits w ls n line (Join c) a is few f = f
event_fits w ls n line (Step c) a is few f = f
event_fits w ls n line (Get c k) a is few f = f.0
event_fits w ls n line (Hear c) a is few f = f
event_fits w ls n line (Cut c) a is few f = f
event_fits w ls n line (Tick ms) a is few f =
    let time : w.run.time ≡ a.state.now = (subst (RanStands w) a.ran a.stands.1).1.now in
    omega (arith, time, a.early, is, few, f.1)

pub none_said : (stop : Stop) (w : WorldHeld) (n : ℕ) (line owed : List ℕ) (ls : List (List ℕ)) (a b : Option (List ℕ)) → SaysNone stop n line → AreRun w ls → n ≡ length ls + 1 → Owes a b owed (report_in ls)
    → IsLineRun (Err stop) w a b owed (also ls line)
none_said (Fault f) w n line owed ls a b s r is o =
    let world_shown : first_fault_in (also ls line) ≡ Some f = fault_none ls line r.good s.0 ∙ ap (λ k. Some (says_none k line)) (sym is) ∙ ap Some (sym s.1) in
    let same : happenings_in (also ls line) ≡ happenings_in ls = said_more ls line None r.good s.0 ∙ append-nil (happenings_in ls) in (
      world_shown,
      subst (λ hs. WorldStands w hs) (sym same) r.stands,
      owes_same a b owed (report_in ls) (report_in (also ls line)) (sym (ap (λ hs. report_text (report hs)) same)) o,
    )
none_said Sink w n line owed ls a b s r is o = absurd s
none_said Memory w n line owed ls a b s r is o = lines_front a b owed ls (line ∷ []) o

-- the event brought a fault
pub over_said : (w w' : WorldHeld) (n : ℕ) (line owed : List ℕ) (ls : List (List ℕ)) (e : Event) (f : IntakeFault) (a b : Option (List ℕ)) → event_said line ≡ Some e → AreRun w ls → n ≡ length ls + 1 → Owes a b owed (report_in ls)
    → WorldStands w' (happenings_in ls ++ on e ∷ []) → run (happenings_in ls ++ on e ∷ []) ≡ over f
    → IsLineRun (Err (Fault (told_at_line n f))) w' a b owed (also ls line)
over_said w w' n line owed ls e f a b says r is o stands ends =
    let all : happenings_in (also ls line) ≡ happenings_in ls ++ on e ∷ [] = said_more ls line (Some e) r.good says in (
      fault_over ls line e f r.good says ends ∙ ap (λ k. Some (told_at_line k f)) (sym is),
      subst (λ hs. WorldStands w' hs) (sym all) stands,
      owes_same a b owed (report_in ls) (report_in (also ls line)) (sym (report_over ls line e f r.good says ends)) o,
    )

-- the event was run, and what it tells is put behind what is owed, or not
pub run_said : (result : Result (Unit {0}) Stop) (w w' : WorldHeld) (line owed owed' text : List ℕ) (ls : List (List ℕ)) (e : Event) (a b : Option (List ℕ)) → event_said line ≡ Some e → FitsScript line e → AreRun w ls → Owes a b owed (report_in ls)
    → WorldStands w' (happenings_in ls ++ on e ∷ []) → IsGoing (run (happenings_in ls ++ on e ∷ []))
    → report_text (report (happenings_in ls ++ on e ∷ [])) ≡ report_in ls ++ text
    → OnOk result (owed' ≡ owed ++ text) → IfErr result (λ stop. stop ≡ Memory)
    → IsLineRun result w' a b owed' (also ls line)
run_said (Ok u) w w' line owed owed' text ls e a b says fits r o stands goes_on tells ok err =
    let all : report_in (also ls line) ≡ report_in ls ++ text = ap (λ hs. report_text (report hs)) (said_more ls line (Some e) r.good says) ∙ tells in (
      line_run w w' ls line e r says fits stands goes_on,
      subst (λ (l : List ℕ). Owes a b l (report_in (also ls line))) (sym ok) (owes_same a b (owed ++ text) (report_in ls ++ text) (report_in (also ls line)) (sym all) (owes_more a b owed (report_in ls) text o)),
    )
run_said (Err stop) w w' line owed owed' text ls e a b says fits r o stands goes_on tells ok err =
    subst (λ (s : Stop). IsLineRun (Err s) w' a b owed' (also ls line)) (sym err) (lines_front a b owed ls (line ∷ []) o)
