-- A script that is run line by line, and what is said of it.
use Rattle.std.specs.Prelude.{◌≡◌, ℕ, ◌+◌, ◌*◌, ◌<◌, ◌≤◌, List, [], ◌∷◌, ◌++◌, map, length, Option, None, Some, Result, Ok, Err, true, false}
use Rattle.std.specs.Option.{option_or}
use Rattle.std.specs.Io.KnownBytes.{Appends}
use Rattle.ty_base.specs.Causes.{Rose}
use Rattle.ty_base.specs.Devices.{Output}
use Rattle.ty_base.specs.Fronts.{AppendsFront}
use Rattle.ty_base.specs.declared.limits.TheConstants.{INPUT_BYTES}
use Rattle.ty_client.specs.steps.Given.{Owes}
use Rattle.ty_intake.specs.Lines.{Feed, Cut, cut_lines, last_line}
use Rattle.ty_intake.specs.Faults.{is_too_long}
use Rattle.ty_intake.specs.steps.Progress.{behind}
use Rattle.ty_script.specs.declared.event.TheConstants.{TICK_MILLISECONDS}
use Rattle.ty_core.specs.Run.{State, Happening, on, going, run, no_state}
use Rattle.ty_core.specs.Report.{report}
use Rattle.ty_core.specs.Text.{report_text}
use Rattle.ty_core.specs.Held.{WorldHeld, WorldStands}
use Rattle.ty_core.specs.Script.{event_said, says_none, events_of, lines_fault, unfinished_line_fault, happenings_of, ending_of, script_fault, simulated}
use Rattle.ty_core.specs.declared.script.Script.{Script}
use Rattle.ty_core.specs.declared.simulation.SimFault.{SimFault}
use Rattle.ty_core.specs.declared.simulation.SimFault.TheVariants.{Write, NoMemory, LongLine}
use Rattle.ty_core.specs.declared.stop.Stop.{Stop}
use Rattle.ty_core.specs.declared.stop.Stop.TheVariants.{Fault, Sink, Memory}

-- how a script ends at such a stop
abbrev pub fault_at_stop : Stop → SimFault
fault_at_stop (Fault f) = f
fault_at_stop Sink = Write
fault_at_stop Memory = NoMemory

-- ---- lines

abbrev pub happenings_in : List (List ℕ) → List Happening
happenings_in ls = map on (events_of ls)

-- the report of a script that has come so far
abbrev pub report_in : List (List ℕ) → List ℕ
report_in ls = report_text (report (happenings_in ls))

abbrev pub first_fault_in : List (List ℕ) → Option SimFault
first_fault_in ls = lines_fault (going no_state) 0 ls

-- these lines were run without a fault, each of which lets at most so much time pass
pub record AreRun (world : WorldHeld) (ls : List (List ℕ)) : Type 0 where
  pub state : State
  pub ran : run (happenings_in ls) ≡ going state
  pub good : first_fault_in ls ≡ None
  pub stands : WorldStands world (happenings_in ls)
  pub early : state.now ≤ TICK_MILLISECONDS * length ls

-- a world stands for a front of these happenings
pub record StandsForPart (world : WorldHeld) (all : List Happening) : Type 0 where
  pub done : List Happening
  pub more : List Happening
  pub whole : all ≡ done ++ more
  pub stands : WorldStands world done

-- why line n says no event
abbrev pub SaysNone : Stop → ℕ → List ℕ → Type 0
SaysNone (Fault f) n line = (event_said line ≡ None) × (f ≡ says_none n line)
SaysNone Sink n line = ⊥
SaysNone Memory n line = Unit {0}

-- the last of these lines was run; to a sink that held the first bytes and holds the second the others are owed
abbrev pub IsLineRun : Result (Unit {0}) Stop → WorldHeld → Option (List ℕ) → Option (List ℕ) → List ℕ → List (List ℕ) → Type 0
IsLineRun (Ok u) world start held owed ls = AreRun world ls × Owes start held owed (report_in ls)
IsLineRun (Err (Fault f)) world start held owed ls = (first_fault_in ls ≡ Some f) × WorldStands world (happenings_in ls) × Owes start held owed (report_in ls)
IsLineRun (Err Sink) world start held owed ls = ⊥
IsLineRun (Err Memory) world start held owed ls = AppendsFront start held (report_in ls)

-- ---- bytes, which end lines

-- what ends in the second bytes is behind what is unfinished of the first ones
abbrev pub followed : Cut → Cut → Cut
followed c d = record { lines = c.lines ++ (behind c.rest d.lines d.rest).lines; rest = (behind c.rest d.lines d.rest).rest }

-- these bytes end the unfinished line
abbrev pub line_ended : Cut → List ℕ → Cut
line_ended c bytes = record { lines = c.lines ++ (c.rest ++ bytes) ∷ []; rest = [] }

-- the lines of a script that has ended
abbrev pub all_lines : Cut → List (List ℕ)
all_lines c = c.lines ++ last_line true c.rest

-- the fault of lines, or else of an unfinished one
abbrev pub cut_fault : Cut → Option SimFault
cut_fault c = option_or (first_fault_in c.lines) (unfinished_line_fault (length c.lines) c.rest)

-- the lines were run, and the unfinished one is kept; of the report, the sink that held the first bytes holds the second
-- ones, and the rest is owed
pub record IsScriptAt (world : WorldHeld) (script : Script) (start held : Option (List ℕ)) (c : Cut) : Type 0 where
  pub rest : script.rest.items ≡ c.rest
  pub count : script.lines ≡ length c.lines
  pub short : is_too_long c.rest ≡ false
  pub lines_run : AreRun world c.lines
  pub owes : Owes start held script.owed.items (report_in c.lines)

-- bytes were kept of an unfinished line behind n others, unless it is too long already
abbrev pub IsLineKept : Result (Unit {0}) Stop → ℕ → List ℕ → List ℕ → Type 0
IsLineKept (Ok u) n bytes kept = (is_too_long bytes ≡ false) × (kept ≡ bytes)
IsLineKept (Err (Fault f)) n bytes kept = (is_too_long bytes ≡ true) × (f ≡ LongLine (n + 1))
IsLineKept (Err Sink) n bytes kept = ⊥
IsLineKept (Err Memory) n bytes kept = Unit {0}

-- a script was run up to here, or up to a stop
abbrev pub IsScriptRunTo : Result (Unit {0}) Stop → WorldHeld → Script → Option (List ℕ) → Output → Output → Cut → Type 0
IsScriptRunTo (Ok u) world script start old new c = IsScriptAt world script start new.held c
IsScriptRunTo (Err (Fault f)) world script start old new c = (cut_fault c ≡ Some f) × StandsForPart world (happenings_in c.lines)
    × Owes start new.held script.owed.items (report_in c.lines)
IsScriptRunTo (Err Sink) world script start old new c = Rose old.faults new.faults × StandsForPart world (happenings_in c.lines)
    × AppendsFront start new.held (report_in c.lines)
IsScriptRunTo (Err Memory) world script start old new c = AppendsFront start new.held (report_in c.lines)

-- ---- a script

-- so many bytes were read, and there are fewer than is too much
pub record IsScriptOpen (world : WorldHeld) (script : Script) (start held : Option (List ℕ)) (bytes : List ℕ) : Type 0 where
  pub at : IsScriptAt world script start held (cut_lines bytes)
  pub seen : script.seen ≡ length bytes
  pub few : length bytes < INPUT_BYTES

abbrev pub still : List ℕ → Feed
still bytes = record { bytes = bytes; ended = false }

abbrev pub finished_feed : List ℕ → Feed
finished_feed bytes = record { bytes = bytes; ended = true }

abbrev pub all_happenings : Feed → List Happening
all_happenings read = happenings_of read ++ ending_of read

-- what was read was run, and its report is owed
abbrev pub IsRun : Result (Unit {0}) Stop → WorldHeld → List ℕ → Option (List ℕ) → Output → Output → Feed → Type 0
IsRun (Ok u) world owed start old new read = (script_fault read ≡ None) × WorldStands world (all_happenings read) × Owes start new.held owed (simulated read)
IsRun (Err (Fault f)) world owed start old new read = (script_fault read ≡ Some f) × StandsForPart world (all_happenings read) × Owes start new.held owed (simulated read)
IsRun (Err Sink) world owed start old new read = Rose old.faults new.faults × StandsForPart world (all_happenings read) × AppendsFront start new.held (simulated read)
IsRun (Err Memory) world owed start old new read = AppendsFront start new.held (simulated read)

-- what was read was run, and its report was given
abbrev pub IsTold : Result (Unit {0}) Stop → WorldHeld → Option (List ℕ) → Output → Output → Feed → Type 0
IsTold (Ok u) world start old new read = (script_fault read ≡ None) × WorldStands world (all_happenings read) × Appends start new.held (simulated read)
IsTold (Err (Fault f)) world start old new read = (script_fault read ≡ Some f) × Appends start new.held (simulated read)
IsTold (Err Sink) world start old new read = Rose old.faults new.faults × StandsForPart world (all_happenings read) × AppendsFront start new.held (simulated read)
IsTold (Err Memory) world start old new read = AppendsFront start new.held (simulated read)

-- what is owed was given behind a run, unless the sink or memory failed before
abbrev pub Settles : Result (Unit {0}) Stop → Result (Unit {0}) Stop → List ℕ → Output → Output → Type 0
Settles (Ok u) (Ok v) owed old new = Appends old.held new.held owed
Settles (Ok u) (Err Sink) owed old new = Rose old.faults new.faults × AppendsFront old.held new.held owed
Settles (Ok u) (Err (Fault f)) owed old new = ⊥
Settles (Ok u) (Err Memory) owed old new = ⊥
Settles (Err (Fault f)) (Err (Fault g)) owed old new = (f ≡ g) × Appends old.held new.held owed
Settles (Err (Fault f)) (Err Sink) owed old new = Rose old.faults new.faults × AppendsFront old.held new.held owed
Settles (Err (Fault f)) (Err Memory) owed old new = ⊥
Settles (Err (Fault f)) (Ok v) owed old new = ⊥
Settles (Err Sink) result owed old new = (result ≡ Err Sink) × (new ≡ old)
Settles (Err Memory) result owed old new = (result ≡ Err Memory) × (new ≡ old)
