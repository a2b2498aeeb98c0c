-- The bytes of a script, cut at their line feeds: what was run of them.
use Rattle.std.proofs.Common.{◌≡◌, ℕ, ◌+◌, ◌≤◌, List, [], ◌∷◌, ◌++◌, length, refl, sym, ap, subst, ◌∙◌, append_assoc, append-nil, arith, length-append, true}
use Rattle.std.specs.Prelude.{Option, None, Some, Result, Ok, Err, OnOk, if◌then◌else◌}
use Rattle.std.specs.Option.{option_or}
use Rattle.std.specs.Io.KnownBytes.{Appends}
use Rattle.ty_base.specs.Devices.{Output}
use Rattle.ty_base.specs.Fronts.{AppendsFront}
use Rattle.ty_client.specs.steps.Given.{Owes}
use Rattle.ty_intake.specs.Lines.{Cut, cut_lines}
use Rattle.ty_intake.specs.Faults.{is_too_long}
use Rattle.ty_intake.specs.steps.Progress.{behind, line_then, only}
use Rattle.ty_intake.proofs.ReadPieces.{behind-nothing}
use Rattle.ty_core.specs.Held.{WorldHeld, WorldStands}
use Rattle.ty_core.specs.Run.{Happening}
use Rattle.ty_core.specs.Script.{unfinished_line_fault}
use Rattle.ty_core.specs.steps.Scripts.{happenings_in, report_in, first_fault_in, StandsForPart, IsLineRun, followed, line_ended, IsScriptAt, IsLineKept, IsScriptRunTo, Settles}
use Rattle.ty_core.specs.declared.script.Script.{Script}
use Rattle.ty_core.specs.declared.simulation.SimFault.TheVariants.{LongLine}
use Rattle.ty_core.specs.declared.stop.Stop.{Stop}
use Rattle.ty_core.specs.declared.stop.Stop.TheVariants.{Fault, Sink, Memory}
use Rattle.ty_core.proofs.ScriptLines.{or_none, happenings_front, fault_stays, report_stays, report_front}
use Rattle.ty_core.proofs.ScriptSteps.{owed_given, owed_part, owes_same}

-- Parts

pub all_done : (w : WorldHeld) (hs more : List Happening) → WorldStands w hs → StandsForPart w (hs ++ more)
all_done w hs more s = record { done = hs; more = more; whole = refl; stands = s }

pub part_more : (w : WorldHeld) (ls ms : List (List ℕ)) → StandsForPart w (happenings_in ls) → StandsForPart w (happenings_in (ls ++ ms))
part_more w ls ms p =
    let f = happenings_front ls ms in
    record {
      done = p.done;
      more = p.more ++ f.0;
      whole = f.1 ∙ ap (λ hs. hs ++ f.0) p.whole ∙ append_assoc p.done p.more f.0;
      stands = p.stands;
    }

just_done : (w : WorldHeld) (hs : List Happening) → WorldStands w hs → StandsForPart w hs
just_done w hs s = record { done = hs; more = []; whole = sym (append-nil hs); stands = s }

pub front_more : (a b : Option (List ℕ)) (ls ms : List (List ℕ)) → AppendsFront a b (report_in ls) → AppendsFront a b (report_in (ls ++ ms))
front_more a b ls ms (front, rest, e, h) =
    let f = report_front ls ms in
    (front, rest ++ f.0, f.1 ∙ ap (λ l. l ++ f.0) e ∙ append_assoc front rest f.0, h)

pub owes_front : (a b : Option (List ℕ)) (owed all : List ℕ) → Owes a b owed all → AppendsFront a b all
owes_front a b owed all o = (o.given, owed, sym o.whole, o.appended)

pub owes_none : (a b : Option (List ℕ)) (all : List ℕ) → Appends a b all → Owes a b [] all
owes_none a b all h = record { given = all; appended = h; whole = append-nil all }

-- A line that ends

pub followed_line : (c d : Cut) (line : List ℕ) → followed c (line_then line d) ≡ followed (line_ended c line) d
followed_line c d line =
    ap (λ (x : Cut). record { lines = c.lines ++ (c.rest ++ line) ∷ x.lines; rest = x.rest }) (behind-nothing d)
    ∙ ap (λ (ls : List (List ℕ)). record { lines = ls; rest = (behind [] d.lines d.rest).rest }) (sym (append_assoc c.lines ((c.rest ++ line) ∷ []) (behind [] d.lines d.rest).lines))

pub followed_rest : (c : Cut) (bytes : List ℕ) → followed c (only bytes) ≡ record { lines = c.lines; rest = c.rest ++ bytes }
followed_rest c bytes = ap (λ (ls : List (List ℕ)). record { lines = ls; rest = c.rest ++ bytes }) (append-nil c.lines)

-- where a stop came behind whole lines, more bytes change nothing

module _ (w : WorldHeld) (script : Script) (start : Option (List ℕ)) (x y : Output) where
  abbrev whole_lines : List (List ℕ) → Cut
  whole_lines ls = record { lines = ls; rest = [] }

  pub stop_stays : (stop : Stop) (ls : List (List ℕ)) (d : Cut) → IsScriptRunTo (Err stop) w script start x y (whole_lines ls) → IsScriptRunTo (Err stop) w script start x y (followed (whole_lines ls) d)
  stop_stays (Fault f) ls d p =
      let ms : List (List ℕ) = (behind [] d.lines d.rest).lines in
      let world_shown : first_fault_in ls ≡ Some f = sym (or_none (first_fault_in ls)) ∙ p.0 in (
        ap (λ o. option_or o (unfinished_line_fault (length (ls ++ ms)) (behind [] d.lines d.rest).rest)) (fault_stays ls ms 0 _ f world_shown),
        part_more w ls ms p.1,
        owes_same start y.held script.owed.items (report_in ls) (report_in (ls ++ ms)) (sym (report_stays ls ms f world_shown)) p.2,
      )
  stop_stays Sink ls d p = (p.0, part_more w ls (behind [] d.lines d.rest).lines p.1, front_more start y.held ls (behind [] d.lines d.rest).lines p.2)
  stop_stays Memory ls d p = front_more start y.held ls (behind [] d.lines d.rest).lines p

  -- the line's run, with the sink as it was

  pub line_stops : (stop : Stop) (owed : List ℕ) (ls : List (List ℕ)) → script.owed.items ≡ owed → IsLineRun (Err stop) w start y.held owed ls → IsScriptRunTo (Err stop) w script start x y (whole_lines ls)
  line_stops (Fault f) owed ls e p = (
    or_none (first_fault_in ls) ∙ p.0,
    just_done w (happenings_in ls) p.1,
    subst (λ (l : List ℕ). Owes start y.held l (report_in ls)) (sym e) p.2,
  )
  line_stops Sink owed ls e p = absurd p
  line_stops Memory owed ls e p = p

  pub line_ends : (c : Cut) (bytes owed : List ℕ) → script.rest.items ≡ [] → script.lines ≡ length c.lines + 1 → script.owed.items ≡ owed → IsLineRun (Ok tt) w start y.held owed (line_ended c bytes).lines
      → IsScriptAt w script start y.held (line_ended c bytes)
  line_ends c bytes owed rest count e p = record {
    rest = rest;
    count = omega (arith, count, length-append c.lines ((c.rest ++ bytes) ∷ []));
    short = refl;
    lines_run = p.0;
    owes = subst (λ (l : List ℕ). Owes start y.held l (report_in (line_ended c bytes).lines)) (sym e) p.1;
  }

-- what was owed behind the line was given, or not
pub line_gives : (result : Result (Unit {0}) Stop) (w : WorldHeld) (before script : Script) (start : Option (List ℕ)) (x y : Output) (c : Cut) → IsScriptAt w before start x.held c → script.rest.items ≡ before.rest.items → script.lines ≡ before.lines
    → OnOk result (script.owed.items ≡ []) → Settles (Ok tt) result before.owed.items x y → IsScriptRunTo result w script start x y c
line_gives (Ok u) w before script start x y c a rest count none s = record {
  rest = rest ∙ a.rest;
  count = count ∙ a.count;
  short = a.short;
  lines_run = a.lines_run;
  owes = subst (λ (l : List ℕ). Owes start y.held l (report_in c.lines)) (sym none) (owes_none start y.held (report_in c.lines) (owed_given start x.held y.held before.owed.items (report_in c.lines) a.owes s));
}
line_gives (Err (Fault f)) w before script start x y c a rest count none s = absurd s
line_gives (Err Sink) w before script start x y c a rest count none s = (
  s.0,
  just_done w (happenings_in c.lines) a.lines_run.stands,
  owed_part start x.held y.held before.owed.items (report_in c.lines) a.owes s.1,
)
line_gives (Err Memory) w before script start x y c a rest count none s = absurd s

-- bytes of an unfinished line
pub kept : (result : Result (Unit {0}) Stop) (w : WorldHeld) (before script : Script) (start : Option (List ℕ)) (x y : Output) (c : Cut) (bytes : List ℕ) → IsScriptAt w before start y.held c → script.lines ≡ before.lines → script.owed.items ≡ before.owed.items
    → IsLineKept result before.lines (before.rest.items ++ bytes) script.rest.items → IsScriptRunTo result w script start x y (record { lines = c.lines; rest = c.rest ++ bytes })
kept (Ok u) w before script start x y c bytes a count owed k =
    let e : before.rest.items ++ bytes ≡ c.rest ++ bytes = ap (λ l. l ++ bytes) a.rest in
    record {
      rest = k.1 ∙ e;
      count = count ∙ a.count;
      short = ap is_too_long (sym e) ∙ k.0;
      lines_run = a.lines_run;
      owes = subst (λ (l : List ℕ). Owes start y.held l (report_in c.lines)) (sym owed) a.owes;
    }
kept (Err (Fault f)) w before script start x y c bytes a count owed k =
    let e : before.rest.items ++ bytes ≡ c.rest ++ bytes = ap (λ l. l ++ bytes) a.rest in
    let long : is_too_long (c.rest ++ bytes) ≡ true = ap is_too_long (sym e) ∙ k.0 in (
      ap (λ o. option_or o (unfinished_line_fault (length c.lines) (c.rest ++ bytes))) a.lines_run.good
          ∙ ap (λ b. if b then Some (LongLine (length c.lines + 1)) else None) long
          ∙ ap (λ n. Some (LongLine (n + 1))) (sym a.count)
          ∙ ap Some (sym k.1),
      just_done w (happenings_in c.lines) a.lines_run.stands,
      subst (λ (l : List ℕ). Owes start y.held l (report_in c.lines)) (sym owed) a.owes,
    )
kept (Err Sink) w before script start x y c bytes a count owed k = absurd k
kept (Err Memory) w before script start x y c bytes a count owed k = owes_front start y.held before.owed.items (report_in c.lines) a.owes

-- How far some bytes were run

-- all that the script was run of, and the bytes that are left, are all
pub record RunsTo (w : WorldHeld) (script : Script) (start held : Option (List ℕ)) (all : Cut) (left : List ℕ) : Type 0 where
  pub cut : Cut
  pub at : IsScriptAt w script start held cut
  pub whole : all ≡ followed cut (cut_lines left)

pub runs_more : (w w' : WorldHeld) (script script' : Script) (start held held' : Option (List ℕ)) (all : Cut) (left line more : List ℕ) (r : RunsTo w script start held all left) → cut_lines left ≡ line_then line (cut_lines more)
    → IsScriptAt w' script' start held' (line_ended r.cut line) → RunsTo w' script' start held' all more
runs_more w w' script script' start held held' all left line more r e a = record {
  cut = line_ended r.cut line;
  at = a;
  whole = r.whole ∙ ap (followed r.cut) e ∙ followed_line r.cut (cut_lines more) line;
}

pub runs_stop : (stop : Stop) (w w' : WorldHeld) (script script' : Script) (start : Option (List ℕ)) (x y : Output) (held : Option (List ℕ)) (all : Cut) (left line more : List ℕ) (r : RunsTo w script start held all left) → cut_lines left ≡ line_then line (cut_lines more)
    → IsScriptRunTo (Err stop) w' script' start x y (line_ended r.cut line) → IsScriptRunTo (Err stop) w' script' start x y all
runs_stop stop w w' script script' start x y held all left line more r e p =
    let whole : all ≡ followed (line_ended r.cut line) (cut_lines more) = r.whole ∙ ap (followed r.cut) e ∙ followed_line r.cut (cut_lines more) line in
    subst (λ (c : Cut). IsScriptRunTo (Err stop) w' script' start x y c) (sym whole) (stop_stays w' script' start x y stop (line_ended r.cut line).lines (cut_lines more) p)

pub runs_out : (result : Result (Unit {0}) Stop) (w : WorldHeld) (script script' : Script) (start : Option (List ℕ)) (x y : Output) (all : Cut) (left : List ℕ) (r : RunsTo w script start y.held all left) → cut_lines left ≡ only left → script'.lines ≡ script.lines → script'.owed.items ≡ script.owed.items
    → IsLineKept result script.lines (script.rest.items ++ left) script'.rest.items → IsScriptRunTo result w script' start x y all
runs_out result w script script' start x y all left r e count owed k =
    let whole : all ≡ record { lines = r.cut.lines; rest = r.cut.rest ++ left } = r.whole ∙ ap (followed r.cut) e ∙ followed_rest r.cut left in
    subst (λ (c : Cut). IsScriptRunTo result w script' start x y c) (sym whole) (kept result w script script' start x y r.cut left r.at count owed k)

-- the sink's faults counted from an earlier time
pub stop_since : (stop : Stop) (w : WorldHeld) (script : Script) (start : Option (List ℕ)) (x x' y : Output) (c : Cut) → x.faults ≤ x'.faults → IsScriptRunTo (Err stop) w script start x' y c → IsScriptRunTo (Err stop) w script start x y c
stop_since (Fault f) w script start x x' y c le p = p
stop_since Sink w script start x x' y c le p = (omega (arith, p.0, le), p.1, p.2)
stop_since Memory w script start x x' y c le p = p
