-- A script as a feed: its lines and its first fault by the cut of its bytes, while it goes on and where it has ended.
use Rattle.std.proofs.Common.{◌≡◌, ◌==◌, ℕ, zero, suc, vec_len, true≢false, ◌+◌, ◌-◌, ◌<◌, ◌≤◌, List, [], ◌∷◌, ◌++◌, length, refl, sym, ap, subst, min, ◌∙◌, append_assoc, append-nil, arith, false, not, inl, inr, le-leb, length-append}
use borrow.Author.Tests.{lt-leb}
use Rattle.std.specs.Prelude.{Option, None, Some, is_some, Result, Ok, Err, OnOk, IfErr, if◌then◌else◌, ◌⊎◌}
use Rattle.std.specs.Option.{option_or}
use Rattle.ty_base.specs.Causes.{Rose}
use Rattle.ty_base.specs.Devices.{Output}
use Rattle.ty_base.specs.Fronts.{AppendsFront}
use Rattle.ty_base.specs.declared.limits.TheConstants.{INPUT_BYTES}
use Rattle.ty_client.specs.steps.Given.{Owes}
use Rattle.ty_intake.specs.Lines.{Feed, Cut, cut_lines, cut_of, lines_of}
use Rattle.ty_intake.specs.Faults.{is_too_long}
use Rattle.ty_intake.proofs.Lines.{cut-length}
use Rattle.ty_intake.proofs.LongerFeeds.{read_part, part-all, cut-append, lines-open, lines-ended}
use Rattle.ty_core.specs.Run.{Happening, end}
use Rattle.ty_core.specs.Report.{report}
use Rattle.ty_core.specs.Text.{report_text}
use Rattle.ty_core.specs.Held.{WorldHeld, RanStands, WorldStands}
use Rattle.ty_core.specs.Script.{unfinished_line_fault, too_much_fault, happenings_of, ending_of, script_fault, simulated}
use Rattle.ty_core.specs.steps.Scripts.{happenings_in, report_in, first_fault_in, AreRun, StandsForPart, IsLineRun, all_lines, followed, cut_fault, IsScriptAt, IsScriptRunTo, IsScriptOpen, still, finished_feed, all_happenings, IsRun, IsTold, Settles}
use Rattle.ty_core.specs.declared.script.Script.{Script}
use Rattle.ty_core.specs.declared.simulation.SimFault.{SimFault}
use Rattle.ty_core.specs.declared.simulation.SimFault.TheVariants.{LongLine, TooMuch}
use Rattle.ty_core.specs.declared.stop.Stop.{Stop}
use Rattle.ty_core.specs.declared.stop.Stop.TheVariants.{Fault, Sink, Memory}
use Rattle.ty_core.proofs.ScriptLines.{or_none, text_more}
use Rattle.ty_core.proofs.ScriptSteps.{owed_given, owed_part, owes_more, owes_same}
use Rattle.ty_core.proofs.ScriptCuts.{all_done, owes_front, line_gives}

or_assoc : {A : Type 0} (a b c : Option A) → option_or a (option_or b c) ≡ option_or (option_or a b) c
or_assoc None b c = refl
or_assoc (Some x) b c = refl

-- ---- it goes on

-- a front of the bytes is all that counts: there are no others, or the next one is too much
pub record IsFront (front back : List ℕ) : Type 0 where
  pub few : length front < INPUT_BYTES
  pub full : (length back ≡ 0) ⊎ (length front ≡ INPUT_BYTES - 1)

front_read : (front back : List ℕ) → IsFront front back → read_part (front ++ back) ≡ front
front_read front back f = part-all front back f.few f.full

pub still_lines : (front back : List ℕ) → IsFront front back → lines_of (still (front ++ back)) ≡ (cut_lines front).lines
still_lines front back f = lines-open (front ++ back) false refl ∙ ap (λ (b : List ℕ). (cut_lines b).lines) (front_read front back f)

still_cut : (front back : List ℕ) → IsFront front back → cut_of (still (front ++ back)) ≡ cut_lines front
unfolding cut_of
still_cut front back f = ap cut_lines (front_read front back f)

-- the fault of a cut, or else that there is too much
pub still_fault : (front back : List ℕ) → IsFront front back → script_fault (still (front ++ back)) ≡ option_or (cut_fault (cut_lines front)) (too_much_fault (still (front ++ back)))
unfolding script_fault
still_fault front back f =
    ap (λ ls. option_or (first_fault_in ls) (option_or (unfinished_line_fault (length (cut_of (still (front ++ back))).lines) (cut_of (still (front ++ back))).rest) (too_much_fault (still (front ++ back))))) (still_lines front back f)
    ∙ ap (λ (c : Cut). option_or (first_fault_in (cut_lines front).lines) (option_or (unfinished_line_fault (length c.lines) c.rest) (too_much_fault (still (front ++ back))))) (still_cut front back f)
    ∙ or_assoc (first_fault_in (cut_lines front).lines) (unfinished_line_fault (length (cut_lines front).lines) (cut_lines front).rest) (too_much_fault (still (front ++ back)))

-- its report is that of its lines

still_all : (front back : List ℕ) → IsFront front back → all_happenings (still (front ++ back)) ≡ happenings_in (cut_lines front).lines
still_all front back f = append-nil (happenings_of (still (front ++ back))) ∙ ap happenings_in (still_lines front back f)

still_text : (front back : List ℕ) → IsFront front back → simulated (still (front ++ back)) ≡ report_in (cut_lines front).lines
unfolding simulated
still_text front back f = ap (λ hs. report_text (report hs)) (still_all front back f)

-- what was run of it

pub read_stops : (stop : Stop) (w : WorldHeld) (script : Script) (start : Option (List ℕ)) (x y : Output) (front back : List ℕ) → IsFront front back → IsScriptRunTo (Err stop) w script start x y (cut_lines front)
    → IsRun (Err stop) w script.owed.items start x y (still (front ++ back))
read_stops (Fault f) w script start x y front back b p = (
  still_fault front back b ∙ ap (λ o. option_or o (too_much_fault (still (front ++ back)))) p.0,
  subst (StandsForPart w) (sym (still_all front back b)) p.1,
  owes_same start y.held script.owed.items (report_in (cut_lines front).lines) (simulated (still (front ++ back))) (sym (still_text front back b)) p.2,
)
read_stops Sink w script start x y front back b p = (
  p.0,
  subst (StandsForPart w) (sym (still_all front back b)) p.1,
  subst (AppendsFront start y.held) (sym (still_text front back b)) p.2,
)
read_stops Memory w script start x y front back b p = subst (AppendsFront start y.held) (sym (still_text front back b)) p

-- no unfinished line is too long
rest_good : (n : ℕ) (rest : List ℕ) → is_too_long rest ≡ false → unfinished_line_fault n rest ≡ None
rest_good n rest e = ap (λ b. if b then Some (LongLine (n + 1)) else None) e

cut_good : (w : WorldHeld) (script : Script) (a b : Option (List ℕ)) (c : Cut) → IsScriptAt w script a b c → cut_fault c ≡ None
cut_good w script a b c at = ap (λ o. option_or o (unfinished_line_fault (length c.lines) c.rest)) at.lines_run.good ∙ rest_good (length c.lines) c.rest at.short

-- byte number INPUT_BYTES is there
pub read_over : (w : WorldHeld) (script : Script) (start : Option (List ℕ)) (x y : Output) (front back : List ℕ) → IsFront front back → INPUT_BYTES ≤ length (front ++ back) → IsScriptAt w script start y.held (cut_lines front)
    → IsRun (Err (Fault TooMuch)) w script.owed.items start x y (still (front ++ back))
read_over w script start x y front back b much at = (
  still_fault front back b
      ∙ ap (λ o. option_or o (too_much_fault (still (front ++ back)))) (cut_good w script start y.held (cut_lines front) at)
      ∙ ap (λ t. if t then Some TooMuch else None) (le-leb INPUT_BYTES (length (front ++ back)) much),
  subst (StandsForPart w) (sym (still_all front back b)) (record { done = happenings_in (cut_lines front).lines; more = []; whole = sym (append-nil (happenings_in (cut_lines front).lines)); stands = at.lines_run.stands }),
  owes_same start y.held script.owed.items (report_in (cut_lines front).lines) (simulated (still (front ++ back))) (sym (still_text front back b)) at.owes,
)

few_bytes : (bytes : List ℕ) → length bytes < INPUT_BYTES → too_much_fault (still bytes) ≡ None
few_bytes bytes few = ap (λ t. if t then Some TooMuch else None) (lt-leb INPUT_BYTES (length bytes) few)

all_front : (bytes : List ℕ) → length bytes < INPUT_BYTES → IsFront bytes []
all_front bytes few = record { few = few; full = inl refl }

-- what is known of a script without a fault
pub record GoesOn (w : WorldHeld) (owed : List ℕ) (a b : Option (List ℕ)) (read : Feed) : Type 0 where
  pub good : script_fault read ≡ None
  pub stands : WorldStands w (happenings_of read)
  pub stands_all : WorldStands w (all_happenings read)
  pub owes : Owes a b owed (simulated read)

pub open_run : (w : WorldHeld) (script : Script) (a b : Option (List ℕ)) (bytes : List ℕ) → IsScriptOpen w script a b bytes → GoesOn w script.owed.items a b (still bytes)
open_run w script a b bytes o =
    let f : IsFront bytes [] = all_front bytes o.few in
    let e : bytes ++ [] ≡ bytes = append-nil bytes in
    let lines : lines_of (still bytes) ≡ (cut_lines bytes).lines = ap (λ (l : List ℕ). lines_of (still l)) (sym e) ∙ still_lines bytes [] f in
    record {
      good = ap (λ (l : List ℕ). script_fault (still l)) (sym e)
          ∙ still_fault bytes [] f
          ∙ ap (λ o. option_or o (too_much_fault (still (bytes ++ [])))) (cut_good w script a b (cut_lines bytes) o.at)
          ∙ ap (λ (l : List ℕ). too_much_fault (still l)) e
          ∙ few_bytes bytes o.few;
      stands = subst (λ (ls : List (List ℕ)). WorldStands w (happenings_in ls)) (sym lines) o.at.lines_run.stands;
      stands_all = subst (λ (l : List ℕ). WorldStands w (all_happenings (still l))) e (subst (λ hs. WorldStands w hs) (sym (still_all bytes [] f)) o.at.lines_run.stands);
      owes = owes_same a b script.owed.items (report_in (cut_lines bytes).lines) (simulated (still bytes)) (sym (ap (λ (l : List ℕ). simulated (still l)) (sym e) ∙ still_text bytes [] f)) o.at.owes;
    }

pub run_open : (w : WorldHeld) (script : Script) (start : Option (List ℕ)) (x y : Output) (bytes : List ℕ) → IsScriptOpen w script start y.held bytes → IsRun (Ok tt) w script.owed.items start x y (still bytes)
run_open w script start x y bytes o =
    let g = open_run w script start y.held bytes o in
    (g.good, g.stands_all, g.owes)

-- ---- it has ended

module _ (bytes : List ℕ) (few : length bytes < INPUT_BYTES) where
  part_is : read_part bytes ≡ bytes
  part_is = ap read_part (sym (append-nil bytes)) ∙ front_read bytes [] (all_front bytes few)

  pub whole_lines : lines_of (finished_feed bytes) ≡ all_lines (cut_lines bytes)
  whole_lines = lines-ended bytes (lt-leb INPUT_BYTES (length bytes) few) ∙ ap (λ (l : List ℕ). all_lines (cut_lines l)) part_is

  whole_cut : cut_of (finished_feed bytes) ≡ cut_lines bytes
  unfolding cut_of
  whole_cut = ap cut_lines part_is

  pub whole_fault : is_too_long (cut_lines bytes).rest ≡ false → script_fault (finished_feed bytes) ≡ first_fault_in (all_lines (cut_lines bytes))
  unfolding script_fault
  whole_fault short =
      ap (λ ls. option_or (first_fault_in ls) (option_or (unfinished_line_fault (length (cut_of (finished_feed bytes)).lines) (cut_of (finished_feed bytes)).rest) (too_much_fault (finished_feed bytes)))) whole_lines
      ∙ ap (λ (c : Cut). option_or (first_fault_in (all_lines (cut_lines bytes))) (option_or (unfinished_line_fault (length c.lines) c.rest) (too_much_fault (finished_feed bytes)))) whole_cut
      ∙ ap (λ o. option_or (first_fault_in (all_lines (cut_lines bytes))) (option_or o (too_much_fault (finished_feed bytes)))) (rest_good (length (cut_lines bytes).lines) (cut_lines bytes).rest short)
      ∙ ap (λ o. option_or (first_fault_in (all_lines (cut_lines bytes))) o) (few_bytes bytes few)
      ∙ or_none (first_fault_in (all_lines (cut_lines bytes)))

  -- what happens, by whether a fault shows
  whole_all : (o : Option SimFault) → script_fault (finished_feed bytes) ≡ o → all_happenings (finished_feed bytes) ≡ happenings_in (all_lines (cut_lines bytes)) ++ (if not (is_some o) then end ∷ [] else [])
  whole_all o e =
      ap (λ ls. happenings_in ls ++ ending_of (finished_feed bytes)) whole_lines
      ∙ ap (λ p. happenings_in (all_lines (cut_lines bytes)) ++ (if not (is_some p) then end ∷ [] else [])) e

  whole_text : (hs : List Happening) → all_happenings (finished_feed bytes) ≡ hs → simulated (finished_feed bytes) ≡ report_text (report hs)
  unfolding simulated
  whole_text hs e = ap (λ hs. report_text (report hs)) e

  front_text : (a b : Option (List ℕ)) → AppendsFront a b (report_in (all_lines (cut_lines bytes))) → AppendsFront a b (simulated (finished_feed bytes))
  front_text a b (front, rest, e, h) =
      let all = whole_all (script_fault (finished_feed bytes)) refl in
      let more : List Happening = if not (is_some (script_fault (finished_feed bytes))) then end ∷ [] else [] in
      let t = text_more (happenings_in (all_lines (cut_lines bytes))) more in
      (front, rest ++ t.0, whole_text (happenings_in (all_lines (cut_lines bytes)) ++ more) all ∙ t.1 ∙ ap (λ l. l ++ t.0) e ∙ append_assoc front rest t.0, h)

  -- its last line stops it
  pub last_stops : (stop : Stop) (w : WorldHeld) (owed : List ℕ) (start : Option (List ℕ)) (x : Output) → is_too_long (cut_lines bytes).rest ≡ false → IsLineRun (Err stop) w start x.held owed (all_lines (cut_lines bytes))
      → IsRun (Err stop) w owed start x x (finished_feed bytes)
  last_stops (Fault f) w owed start x short p =
      let world_shown : script_fault (finished_feed bytes) ≡ Some f = whole_fault short ∙ p.0 in
      let all : all_happenings (finished_feed bytes) ≡ happenings_in (all_lines (cut_lines bytes)) ++ [] = whole_all (Some f) world_shown in (
        world_shown,
        subst (StandsForPart w) (sym all) (all_done w (happenings_in (all_lines (cut_lines bytes))) [] p.1),
        owes_same start x.held owed (report_in (all_lines (cut_lines bytes))) (simulated (finished_feed bytes)) (sym (whole_text (happenings_in (all_lines (cut_lines bytes))) (all ∙ append-nil (happenings_in (all_lines (cut_lines bytes)))))) p.2,
      )
  last_stops Sink w owed start x short p = absurd p
  last_stops Memory w owed start x short p = front_text start x.held p

  -- memory runs out at the feed's end
  pub end_short : (w w' : WorldHeld) (owed owed' : List ℕ) (start : Option (List ℕ)) (x : Output) → IsLineRun (Ok tt) w start x.held owed (all_lines (cut_lines bytes)) → IsRun (Err Memory) w' owed' start x x (finished_feed bytes)
  end_short w w' owed owed' start x p = front_text start x.held (owes_front start x.held owed (report_in (all_lines (cut_lines bytes))) p.1)

  -- the feed ends
  pub end_run : (result : Result (Unit {0}) Stop) (w w' : WorldHeld) (owed owed' text : List ℕ) (start : Option (List ℕ)) (x : Output) → is_too_long (cut_lines bytes).rest ≡ false
      → IsLineRun (Ok tt) w start x.held owed (all_lines (cut_lines bytes))
      → WorldStands w' (happenings_in (all_lines (cut_lines bytes)) ++ end ∷ [])
      → report_text (report (happenings_in (all_lines (cut_lines bytes)) ++ end ∷ [])) ≡ report_in (all_lines (cut_lines bytes)) ++ text
      → OnOk result (owed' ≡ owed ++ text) → IfErr result (λ stop. stop ≡ Memory)
      → IsRun result w' owed' start x x (finished_feed bytes)
  end_run (Ok u) w w' owed owed' text start x short p stands tells ok err =
      let good : script_fault (finished_feed bytes) ≡ None = whole_fault short ∙ p.0.good in
      let all : all_happenings (finished_feed bytes) ≡ happenings_in (all_lines (cut_lines bytes)) ++ end ∷ [] = whole_all None good in (
        good,
        subst (λ hs. WorldStands w' hs) (sym all) stands,
        subst (λ (l : List ℕ). Owes start x.held l (simulated (finished_feed bytes))) (sym ok)
            (owes_same start x.held (owed ++ text) (report_in (all_lines (cut_lines bytes)) ++ text) (simulated (finished_feed bytes)) (sym (whole_text (happenings_in (all_lines (cut_lines bytes)) ++ end ∷ []) all ∙ tells))
            (owes_more start x.held owed (report_in (all_lines (cut_lines bytes))) text p.1)),
      )
  end_run (Err stop) w w' owed owed' text start x short p stands tells ok err =
      subst (λ (s : Stop). IsRun (Err s) w' owed' start x x (finished_feed bytes)) (sym err) (end_short w w' owed owed' start x p)

-- a world that has run lines has no fault of the feed
pub no_feed_fault : (w : WorldHeld) (ls : List (List ℕ)) → AreRun w ls → w.fault ≡ None
no_feed_fault w ls a = (subst (RanStands w) a.ran a.stands.1).0

-- ---- and what is owed is given

pub rose_after : (a b c : ℕ) → a ≤ b → Rose b c → Rose a c
rose_after a b c h r = omega (arith, h, r)

pub settled : (run result : Result (Unit {0}) Stop) (w : WorldHeld) (owed : List ℕ) (start : Option (List ℕ)) (x y z : Output) (read : Feed) → x.faults ≤ y.faults → IsRun run w owed start x y read → Settles run result owed y z → IsTold result w start x z read
settled (Ok u) (Ok v) w owed start x y z read le p s = (p.0, p.1, owed_given start y.held z.held owed (simulated read) p.2 s)
settled (Ok u) (Err Sink) w owed start x y z read le p s = (
  rose_after x.faults y.faults z.faults le s.0,
  record { done = all_happenings read; more = []; whole = sym (append-nil (all_happenings read)); stands = p.1 },
  owed_part start y.held z.held owed (simulated read) p.2 s.1,
)
settled (Ok u) (Err (Fault f)) w owed start x y z read le p s = absurd s
settled (Ok u) (Err Memory) w owed start x y z read le p s = absurd s
settled (Err (Fault f)) (Err (Fault g)) w owed start x y z read le p s = (p.0 ∙ ap Some s.0, owed_given start y.held z.held owed (simulated read) p.2 s.1)
settled (Err (Fault f)) (Err Sink) w owed start x y z read le p s = (rose_after x.faults y.faults z.faults le s.0, p.1, owed_part start y.held z.held owed (simulated read) p.2 s.1)
settled (Err (Fault f)) (Err Memory) w owed start x y z read le p s = absurd s
settled (Err (Fault f)) (Ok v) w owed start x y z read le p s = absurd s
settled (Err Sink) result w owed start x y z read le p s =
    let P : Output → Type 0 = λ o. Rose x.faults o.faults × StandsForPart w (all_happenings read) × AppendsFront start o.held (simulated read) in
    subst (λ (r : Result (Unit {0}) Stop). IsTold r w start x z read) (sym s.0) (subst P (sym s.1) p)
settled (Err Memory) result w owed start x y z read le p s =
    subst (λ (r : Result (Unit {0}) Stop). IsTold r w start x z read) (sym s.0) (subst (λ (o : Output). AppendsFront start o.held (simulated read)) (sym s.1) p)

-- ---- how many lines there are

pub some_bytes : (n : ℕ) → (n == 0) ≡ false → 0 < n
some_bytes zero h = absurd (true≢false h)
some_bytes (suc n) h = omega arith

-- an unfinished line that isn't empty is one more
pub last_few : (w : WorldHeld) (script : Script) (a b : Option (List ℕ)) (bytes : List ℕ) → IsScriptOpen w script a b bytes → (vec_len script.rest == 0) ≡ false → script.lines + 1 < INPUT_BYTES
last_few w script a b bytes o h =
    omega (arith, some_bytes (vec_len script.rest) h, script.rest.ok.0, ap length o.at.rest, o.at.count, cut-length bytes, o.few)

pub lines_few : (w : WorldHeld) (script : Script) (a b : Option (List ℕ)) (bytes : List ℕ) → IsScriptOpen w script a b bytes → script.lines ≤ script.seen
lines_few w script a b bytes o = omega (arith, o.at.count, cut-length bytes, o.seen)

-- ---- one piece more, of which a front is within the limit

pub at_seen : (w : WorldHeld) (script : Script) (seen : ℕ) (a b : Option (List ℕ)) (c : Cut) → IsScriptAt w script a b c → IsScriptAt w (record script { seen = seen }) a b c
at_seen w script seen a b c at = record { rest = at.rest; count = at.count; short = at.short; lines_run = at.lines_run; owes = at.owes }

pub front_of : (bytes front back : List ℕ) (seen all : ℕ) → seen ≡ length bytes → seen < INPUT_BYTES → length front ≡ min all (INPUT_BYTES - 1 - seen) → length back ≡ all - length front → IsFront (bytes ++ front) back
front_of bytes front [] seen all is few most left = record { few = omega (arith, length-append bytes front, is, few, most); full = inl refl }
front_of bytes front (x ∷ back) seen all is few most left = record {
  few = omega (arith, length-append bytes front, is, few, most);
  full = inr (omega (arith, length-append bytes front, is, few, most, left));
}

module _ (w : WorldHeld) (script : Script) (start : Option (List ℕ)) (x y : Output) (bytes front back piece : List ℕ) (parts : piece ≡ front ++ back) where
  joined : (bytes ++ front) ++ back ≡ bytes ++ piece
  joined = append_assoc bytes front back ∙ ap (λ (l : List ℕ). bytes ++ l) (sym parts)

  pub piece_stops : (stop : Stop) → IsFront (bytes ++ front) back → IsScriptRunTo (Err stop) w script start x y (followed (cut_lines bytes) (cut_lines front)) → IsRun (Err stop) w script.owed.items start x y (still (bytes ++ piece))
  piece_stops stop f p =
      subst (λ (l : List ℕ). IsRun (Err stop) w script.owed.items start x y (still l)) joined
      (read_stops stop w script start x y (bytes ++ front) back f (subst (λ (c : Cut). IsScriptRunTo (Err stop) w script start x y c) (sym (cut-append bytes front)) p))

  too_many : (length back ≡ 0) ⊎ (length (bytes ++ front) ≡ INPUT_BYTES - 1) → 0 < length back → INPUT_BYTES ≤ length ((bytes ++ front) ++ back)
  too_many (inl none) some = absurd (omega (arith, none, some))
  too_many (inr full) some = omega (arith, length-append (bytes ++ front) back, full, some)

  pub piece_over : IsFront (bytes ++ front) back → 0 < length back → IsScriptAt w script start y.held (followed (cut_lines bytes) (cut_lines front)) → IsRun (Err (Fault TooMuch)) w script.owed.items start x y (still (bytes ++ piece))
  piece_over f some at =
      subst (λ (l : List ℕ). IsRun (Err (Fault TooMuch)) w script.owed.items start x y (still l)) joined
      (read_over w script start x y (bytes ++ front) back f (too_many f.full some) (subst (λ (c : Cut). IsScriptAt w script start y.held c) (sym (cut-append bytes front)) at))

  empty_of : (l : List ℕ) → length l ≡ 0 → l ≡ []
  empty_of [] e = refl
  empty_of (z ∷ l) e = absurd (omega arith)

  pub piece_open : IsFront (bytes ++ front) back → length back ≡ 0 → script.seen ≡ length bytes + length front → IsScriptAt w script start y.held (followed (cut_lines bytes) (cut_lines front)) → IsScriptOpen w script start y.held (bytes ++ piece)
  piece_open f none seen at =
      let same : bytes ++ piece ≡ bytes ++ front = ap (λ (l : List ℕ). bytes ++ l) (parts ∙ ap (λ (l : List ℕ). front ++ l) (empty_of back none) ∙ append-nil front) in
      record {
        at = subst (λ (l : List ℕ). IsScriptAt w script start y.held (cut_lines l)) (sym same) (subst (λ (c : Cut). IsScriptAt w script start y.held c) (sym (cut-append bytes front)) at);
        seen = omega (arith, seen, length-append bytes front, ap length same);
        few = omega (arith, f.few, ap length same);
      }

-- it goes on behind what was given
pub settled_on : (was result : Result (Unit {0}) Stop) (w0 w : WorldHeld) (before script script' : Script) (x y z : Output) (piece : List ℕ) → script'.rest.items ≡ script.rest.items → script'.lines ≡ script.lines → script'.seen ≡ script.seen
    → OnOk result (script'.owed.items ≡ []) → Settles was result script.owed.items y z
    → OnOk was ((bytes : List ℕ) (start : Option (List ℕ)) → IsScriptOpen w0 before start x.held bytes → IsScriptOpen w script start y.held (bytes ++ piece))
    → OnOk result ((bytes : List ℕ) (start : Option (List ℕ)) → IsScriptOpen w0 before start x.held bytes → IsScriptOpen w script' start z.held (bytes ++ piece))
settled_on was (Err e) w0 w before script script' x y z piece rest lines seen none s more = tt
settled_on (Ok u) (Ok v) w0 w before script script' x y z piece rest lines seen none s more = λ bytes start o.
    let p = more bytes start o in
    record {
      at = line_gives (Ok v) w script script' start y z (cut_lines (bytes ++ piece)) p.at rest lines none s;
      seen = seen ∙ p.seen;
      few = p.few;
    }
settled_on (Err (Fault f)) (Ok v) w0 w before script script' x y z piece rest lines seen none s more = absurd s
settled_on (Err Sink) (Ok v) w0 w before script script' x y z piece rest lines seen none s more = cc
settled_on (Err Memory) (Ok v) w0 w before script script' x y z piece rest lines seen none s more = cc
