-- A script: lines, cut as a feed's are, each of which says an event. What it tells, and its first fault.
use Rattle.std.specs.Prelude.{ℕ, ◌+◌, ◌&&◌, List, [], ◌∷◌, ◌++◌, map, length, not, Option, None, Some, is_some, if◌then◌else◌}
use Rattle.std.specs.Option.{option_or}
use Rattle.ty_intake.specs.Lines.{Feed, cut_of, lines_of, is_too_much}
use Rattle.ty_intake.specs.Faults.{is_too_long}
use Rattle.ty_intake.specs.declared.intake.IntakeFault.{IntakeFault}
use Rattle.ty_intake.specs.declared.intake.IntakeFault.TheVariants as feed
use Rattle.ty_script.specs.Script.{is_like_feed, event_of}
use Rattle.ty_script.specs.declared.event.Event.{Event}
use Rattle.ty_core.specs.Run.{Happening, on, end, Ran, going, over, goes, no_state}
use Rattle.ty_core.specs.Report.{report}
use Rattle.ty_core.specs.Text.{report_text}
use Rattle.ty_core.specs.declared.simulation.SimFault.{SimFault}
use Rattle.ty_core.specs.declared.simulation.SimFault.TheVariants.{Event as NotEvent, Feed as FeedFault, LongLine, TooMuch}

-- what a line says, unless it is too long
abbrev pub event_said : List ℕ → Option Event
event_said line = if is_too_long line then None else event_of line

-- why line n says no event
abbrev pub says_none : ℕ → List ℕ → SimFault
says_none n line =
    if is_too_long line then LongLine n else (
    if is_like_feed line then FeedFault n (feed.BadUtf8 n) else NotEvent n)

-- a fault of the feed or of a connection, as it shows at line n
abbrev pub told_at_line : ℕ → IntakeFault → SimFault
told_at_line n (feed.LongLine k) = LongLine n
told_at_line n (feed.BadUtf8 k) = FeedFault n (feed.BadUtf8 n)
told_at_line n (feed.BadLine k) = FeedFault n (feed.BadLine n)
told_at_line n feed.TooMuch = TooMuch

-- the events of lines, up to the first line that says none
abbrev pub and_then_events : Option Event → List Event → List Event
and_then_events None es = []
and_then_events (Some e) es = e ∷ es

unfoldable pub events_of : List (List ℕ) → List Event
events_of [] = []
events_of (l ∷ ls) = and_then_events (event_said l) (events_of ls)

abbrev pub happenings_of : Feed → List Happening
happenings_of read = map on (events_of (lines_of read))

-- Faults

-- a line that says none leaves the run as it is
abbrev pub ran_by : Ran → Option Event → Ran
ran_by r None = r
ran_by r (Some e) = goes r (on e)

-- what shows at line n, by what it says and the run behind it
abbrev pub script_line_fault : ℕ → List ℕ → Option Event → Ran → Option SimFault
script_line_fault n line None r = Some (says_none n line)
script_line_fault n line (Some e) (going s) = None
script_line_fault n line (Some e) (over f) = Some (told_at_line n f)

-- the first fault of lines behind n others, where the run has come so far
unfoldable pub lines_fault : Ran → ℕ → List (List ℕ) → Option SimFault
lines_fault r n [] = None
lines_fault r n (l ∷ ls) =
    option_or (script_line_fault (n + 1) l (event_said l) (ran_by r (event_said l))) (lines_fault (ran_by r (event_said l)) (n + 1) ls)

-- an unfinished line behind n others is too long already
abbrev pub unfinished_line_fault : ℕ → List ℕ → Option SimFault
unfinished_line_fault n rest = if is_too_long rest then Some (LongLine (n + 1)) else None

abbrev pub too_much_fault : Feed → Option SimFault
too_much_fault read = if is_too_much read then Some TooMuch else None

-- what shows first
unfoldable pub script_fault : Feed → Option SimFault
script_fault read =
    option_or (lines_fault (going no_state) 0 (lines_of read))
    (option_or (unfinished_line_fault (length (cut_of read).lines) (cut_of read).rest) (too_much_fault read))

-- What is told

-- the feed ends with the script, unless a fault came before
abbrev pub ending_of : Feed → List Happening
ending_of read = if read.ended && not (is_some (script_fault read)) then end ∷ [] else []

-- the report of the events before the first fault, and of the feed's end where the script has ended without one
unfoldable pub simulated : Feed → List ℕ
simulated read = report_text (report (happenings_of read ++ ending_of read))

-- all that a script says, and then the feed's end
abbrev pub whole_script : Feed → List Happening
whole_script read = happenings_of read ++ end ∷ []
