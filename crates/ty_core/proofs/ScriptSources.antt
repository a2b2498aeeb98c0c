-- A script from a source: what was taken and run of it so far, and each way out.
use Rattle.std.proofs.Common.{◌≡◌, ℕ, ◌+◌, ◌-◌, ◌<◌, ◌≤◌, List, [], ◌∷◌, ◌++◌, length, take, drop, refl, sym, ap, subst, ◌∙◌, length-append, arith, Bool, true, false, cond, not, true≢false}
use Rattle.std.specs.Prelude.{Option, None, Some, is_some, Ok, Err}
use Rattle.std.specs.Option.{option_or}
use Rattle.std.specs.Io.KnownBytes.{Appends, Consumes, IsAtEnd}
use Rattle.ty_base.specs.Causes.{Rose}
use Rattle.ty_base.specs.Devices.{Output, Seen}
use Rattle.ty_base.specs.declared.limits.TheConstants.{INPUT_BYTES}
use Rattle.ty_base.proofs.Known.{Appends-same, Consumes-then}
use Rattle.ty_client.specs.steps.Given.{Owes}
use Rattle.ty_client.proofs.Followed.{take_same, length_take}
use Rattle.ty_intake.specs.Lines.{Feed, lines_of, cut_of}
use Rattle.ty_intake.specs.Faults.{is_too_long}
use Rattle.ty_intake.specs.declared.intake.IntakeFault.{IntakeFault}
use Rattle.ty_intake.specs.declared.intake.IntakeFault.TheVariants as feed
use Rattle.ty_intake.proofs.Lines.{cut-none}
use Rattle.ty_script.specs.Script.{is_like_feed}
use Rattle.ty_script.specs.declared.event.Event.{Event}
use Rattle.ty_core.specs.Run.{Ran, going, over, end, no_state}
use Rattle.ty_core.specs.Report.{report_from}
use Rattle.ty_core.specs.Held.{WorldHeld, WorldStands}
use Rattle.ty_core.specs.Script.{event_said, told_at_line, events_of, ran_by, script_line_fault, lines_fault, unfinished_line_fault, too_much_fault, happenings_of, ending_of, script_fault, simulated}
use Rattle.ty_core.specs.Simulated.{Taken, Simulated, Faulty, SimStopped}
use Rattle.ty_core.specs.steps.Scripts.{fault_at_stop, report_in, AreRun, IsScriptAt, IsScriptOpen, IsTold, still, finished_feed}
use Rattle.ty_core.specs.declared.script.Script.{Script}
use Rattle.ty_core.specs.declared.simulation.SimFault.{SimFault}
use Rattle.ty_core.specs.declared.simulation.SimFault.TheVariants.{Event as NotEvent, Feed as FeedFault, LongLine, TooMuch, Read, Write, NoMemory}
use Rattle.ty_core.specs.declared.stop.Stop.{Stop}
use Rattle.ty_core.specs.declared.stop.Stop.TheVariants.{Fault, Sink, Memory}
use Rattle.ty_core.proofs.Happenings.{run-none}
use Rattle.ty_core.proofs.ScriptSteps.{owed_given}
use Rattle.ty_core.proofs.ScriptFeeds.{open_run, rose_after}

-- Faults of a script

-- neither device nor memory
abbrev IsFound : SimFault → Type 0
IsFound (NotEvent n) = Unit {0}
IsFound (FeedFault n f) = Unit {0}
IsFound (LongLine n) = Unit {0}
IsFound TooMuch = Unit {0}
IsFound Read = ⊥
IsFound Write = ⊥
IsFound NoMemory = ⊥

abbrev AreFound : Option SimFault → Type 0
AreFound None = Unit {0}
AreFound (Some f) = IsFound f

either_found : (a b : Option SimFault) → AreFound a → AreFound b → AreFound (option_or a b)
either_found None b x y = y
either_found (Some f) b x y = x

by_tests : (n : ℕ) (long like : Bool) → IsFound (cond long (LongLine n) (cond like (FeedFault n (feed.BadUtf8 n)) (NotEvent n)))
by_tests n true like = tt
by_tests n false true = tt
by_tests n false false = tt

shown_found : (n : ℕ) (f : IntakeFault) → IsFound (told_at_line n f)
shown_found n (feed.LongLine k) = tt
shown_found n (feed.BadUtf8 k) = tt
shown_found n (feed.BadLine k) = tt
shown_found n feed.TooMuch = tt

line_found : (n : ℕ) (line : List ℕ) (o : Option Event) (r : Ran) → AreFound (script_line_fault n line o r)
line_found n line None r = by_tests n (is_too_long line) (is_like_feed line)
line_found n line (Some e) (going s) = tt
line_found n line (Some e) (over f) = shown_found n f

lines_found : (r : Ran) (n : ℕ) (ls : List (List ℕ)) → AreFound (lines_fault r n ls)
unfolding lines_fault
lines_found r n [] = tt
lines_found r n (l ∷ ls) =
    either_found (script_line_fault (n + 1) l (event_said l) (ran_by r (event_said l))) (lines_fault (ran_by r (event_said l)) (n + 1) ls)
    (line_found (n + 1) l (event_said l) (ran_by r (event_said l))) (lines_found (ran_by r (event_said l)) (n + 1) ls)

if_found : (b : Bool) (f : SimFault) → IsFound f → AreFound (cond b (Some f) None)
if_found true f x = x
if_found false f x = tt

script_found : (read : Feed) → AreFound (script_fault read)
unfolding script_fault
script_found read =
    either_found (lines_fault (going no_state) 0 (lines_of read)) (option_or (unfinished_line_fault (length (cut_of read).lines) (cut_of read).rest) (too_much_fault read))
    (lines_found (going no_state) 0 (lines_of read))
    (either_found (unfinished_line_fault (length (cut_of read).lines) (cut_of read).rest) (too_much_fault read) (if_found (is_too_long (cut_of read).rest) _ tt) (if_found _ TooMuch tt))

found_at : (read : Feed) (f : SimFault) → script_fault read ≡ Some f → IsFound f
found_at read f e = subst AreFound e (script_found read)

-- How far it was taken

pub record Running (world : WorldHeld) (script : Script) (old now : Seen) : Type 0 where
  pub bytes : List ℕ
  pub consumed : Consumes old.source.left now.source.left bytes
  pub open_to : IsScriptOpen world script old.sink.held now.sink.held bytes
  pub settled : script.owed.items ≡ []

none_run : (world : WorldHeld) → WorldStands world [] → AreRun world []
unfolding events_of lines_fault
none_run world s = record { state = no_state; ran = run-none; good = refl; stands = s; early = omega arith }

none_told : report_in [] ≡ []
unfolding events_of report_from
none_told = refl

pub running_begins : (world : WorldHeld) (script : Script) (old : Seen) → Consumes old.source.left old.source.left [] → WorldStands world [] → script.rest.items ≡ [] → script.lines ≡ 0 → script.seen ≡ 0 → script.owed.items ≡ [] → Running world script old old
running_begins world script old c s rest count seen owed = record {
  bytes = [];
  consumed = c;
  open_to = record {
    at = subst (λ c. IsScriptAt world script old.sink.held old.sink.held c) (sym cut-none) (record {
      rest = rest;
      count = count;
      short = refl;
      lines_run = none_run world s;
      owes = record { given = []; appended = Appends-same old.sink.held; whole = owed ∙ sym none_told };
    });
    seen = seen;
    few = omega arith;
  };
  settled = owed;
}

pub running_more : (world world' : WorldHeld) (script script' : Script) (old now new : Seen) (piece : List ℕ) (r : Running world script old now) → Consumes now.source.left new.source.left piece
    → IsScriptOpen world' script' old.sink.held new.sink.held (r.bytes ++ piece) → script'.owed.items ≡ [] → Running world' script' old new
running_more world world' script script' old now new piece r c o e = record {
  bytes = r.bytes ++ piece;
  consumed = Consumes-then old.source.left now.source.left new.source.left r.bytes piece r.consumed c;
  open_to = o;
  settled = e;
}

pub running_short : (world : WorldHeld) (script : Script) (old now : Seen) → Running world script old now → script.seen < INPUT_BYTES
running_short world script old now r = omega (arith, r.open_to.seen, r.open_to.few)

-- a piece that isn't empty leaves fewer bytes to come
pub running_nearer : (world world' : WorldHeld) (script script' : Script) (old now : Seen) (held : Option (List ℕ)) (piece : List ℕ) (n : ℕ) (r : Running world script old now) → length piece ≡ n → 0 < n
    → IsScriptOpen world' script' old.sink.held held (r.bytes ++ piece) → INPUT_BYTES - script'.seen < INPUT_BYTES - script.seen
running_nearer world world' script script' old now held piece n r count some o =
    omega (arith, count, some, r.open_to.seen, r.open_to.few, o.seen, length-append r.bytes piece)

-- what a source put at the front of a buffer, which shows as so many of these bytes
pub piece_taken : (a b : Option (List ℕ)) (n len : ℕ) (buf items shown : List ℕ) → n ≤ length buf → n ≤ len → shown ≡ take len (buf ++ drop (length buf) items) → Consumes a b (take n buf)
    → Consumes a b (take n shown) × (length (take n shown) ≡ n)
piece_taken a b n len buf items shown fits room is taken =
    let same : take n shown ≡ take n buf = ap (λ (x : List ℕ). take n x) is ∙ take_same n len buf items fits room in
    (subst (λ (x : List ℕ). Consumes a b x) (sym same) taken, ap (λ (x : List ℕ). length x) same ∙ sym (length_take n buf fits))

-- Each way out

taken_still : (old new : Seen) (bytes : List ℕ) → Consumes old.source.left new.source.left bytes → Taken old new (still bytes)
taken_still old new bytes c = record { bytes = c; end = λ e. absurd (true≢false (sym e)) }

-- before the first piece
pub short_first : (world : WorldHeld) (old new : Seen) → Consumes old.source.left new.source.left [] → Appends old.sink.held new.sink.held [] → SimStopped world old new NoMemory
short_first world old new c a = (still [], taken_still old new [] c, ([], simulated (still []), refl, a))

pub running_fails : (world : WorldHeld) (script : Script) (old now new : Seen) (r : Running world script old now) → Consumes old.source.left new.source.left r.bytes → new.sink.held ≡ now.sink.held → Rose old.source.faults new.source.faults
    → SimStopped world old new Read
running_fails world script old now new r c e rose =
    let g = open_run world script old.sink.held now.sink.held r.bytes r.open_to in
    let owes : Owes old.sink.held now.sink.held [] (simulated (still r.bytes)) = subst (λ (l : List ℕ). Owes old.sink.held now.sink.held l (simulated (still r.bytes))) r.settled g.owes in (
      still r.bytes,
      taken_still old new r.bytes c,
      refl,
      g.good,
      rose,
      g.stands,
      subst (λ (x : Option (List ℕ)). Appends old.sink.held x (simulated (still r.bytes))) (sym e) (owed_given old.sink.held now.sink.held now.sink.held [] (simulated (still r.bytes)) owes (Appends-same now.sink.held)),
    )

by_fault : (f : SimFault) (world : WorldHeld) (old new : Seen) → IsFound f → Faulty f old new → SimStopped world old new f
by_fault (NotEvent n) world old new i h = h
by_fault (FeedFault n f) world old new i h = h
by_fault (LongLine n) world old new i h = h
by_fault TooMuch world old new i h = h
by_fault Read world old new i h = absurd i
by_fault Write world old new i h = absurd i
by_fault NoMemory world old new i h = absurd i

pub stopped_by : (stop : Stop) (world : WorldHeld) (old new : Seen) (x : Output) (read : Feed) → Taken old new read → old.sink.faults ≤ x.faults → IsTold (Err stop) world old.sink.held x new.sink read → SimStopped world old new (fault_at_stop stop)
stopped_by (Fault f) world old new x read t le p = by_fault f world old new (found_at read f p.0) (record { read = read; taken = t; found = p.0; written = p.1 })
stopped_by Sink world old new x read t le p = (read, p.1.done, p.1.more, t, rose_after old.sink.faults x.faults new.sink.faults le p.0, p.1.whole, p.1.stands, p.2)
stopped_by Memory world old new x read t le p = (read, t, p)

pub running_stops : (stop : Stop) (world world' : WorldHeld) (script : Script) (old now new : Seen) (piece : List ℕ) (r : Running world script old now) → Consumes now.source.left new.source.left piece → old.sink.faults ≤ now.sink.faults
    → IsTold (Err stop) world' old.sink.held now.sink new.sink (still (r.bytes ++ piece)) → SimStopped world' old new (fault_at_stop stop)
running_stops stop world world' script old now new piece r c le p =
    stopped_by stop world' old new now.sink (still (r.bytes ++ piece)) (taken_still old new (r.bytes ++ piece) (Consumes-then old.source.left now.source.left new.source.left r.bytes piece r.consumed c)) le p

-- at the source's end

taken_whole : (old new : Seen) (bytes : List ℕ) → Consumes old.source.left new.source.left bytes → IsAtEnd new.source.left → Taken old new (finished_feed bytes)
taken_whole old new bytes c t = record { bytes = c; end = λ e. t }

pub running_ends : (world world' : WorldHeld) (script : Script) (old now new : Seen) (r : Running world script old now) → Consumes old.source.left new.source.left r.bytes → IsAtEnd new.source.left
    → IsTold (Ok tt) world' old.sink.held now.sink new.sink (finished_feed r.bytes) → Simulated world' old new
running_ends world world' script old now new r c t p =
    let more : ending_of (finished_feed r.bytes) ≡ end ∷ [] = ap (λ (o : Option SimFault). cond (not (is_some o)) (end ∷ []) []) p.0 in
    record {
      read = finished_feed r.bytes;
      taken = taken_whole old new r.bytes c t;
      ended = refl;
      good = p.0;
      stands = subst (λ hs. WorldStands world' (happenings_of (finished_feed r.bytes) ++ hs)) more p.1;
      written = p.2;
    }

pub running_ended : (stop : Stop) (world world' : WorldHeld) (script : Script) (old now new : Seen) (r : Running world script old now) → Consumes old.source.left new.source.left r.bytes → IsAtEnd new.source.left → old.sink.faults ≤ now.sink.faults
    → IsTold (Err stop) world' old.sink.held now.sink new.sink (finished_feed r.bytes) → SimStopped world' old new (fault_at_stop stop)
running_ended stop world world' script old now new r c t le p = stopped_by stop world' old new now.sink (finished_feed r.bytes) (taken_whole old new r.bytes c t) le p
