-- A script without a fault says what can happen, one after another, and no fault comes of it.
use Rattle.std.proofs.Common.{◌≡◌, ◌∙◌, ap, sym, refl, subst, ℕ, ◌+◌, ◌-◌, ◌*◌, ◌^◌, ◌≤◌, ◌<◌, Bool, true, false, cond, List, [], ◌∷◌, ◌++◌, length, map, arith, length-append, leb-false}
use Rattle.std.proofs.lemmas.List.{length-take}
use Rattle.std.specs.Prelude.{Option, None, Some, nat_le, if◌then◌else◌}
use Rattle.std.specs.Option.{option_or}
use Rattle.std.specs.Str.{is_utf8}
use Rattle.ty_base.specs.declared.limits.TheConstants.{INPUT_BYTES}
use Rattle.ty_intake.specs.Lines.{Feed, Cut, cut_lines, last_line, lines_of}
use Rattle.ty_intake.specs.Faults.{is_too_long}
use Rattle.ty_intake.specs.declared.intake.IntakeFault.{IntakeFault}
use Rattle.ty_intake.proofs.Lines.{cut-length}
use Rattle.ty_intake.proofs.LongerFeeds.{read_part, lines-ended}
use Rattle.ty_script.specs.declared.event.Event.{Event}
use Rattle.ty_script.specs.declared.event.Event.TheVariants.{Line, Join, Step, Get, Hear, Cut as CutOff, Tick}
use Rattle.ty_script.specs.declared.event.TheConstants.{TICK_MILLISECONDS}
use Rattle.ty_script.specs.Fits.{FitsScript, IsEvent}
use Rattle.ty_script.specs.Script.{is_like_feed, event_of, event_of_words, words}
use Rattle.ty_script.proofs.Fitting.{words_fit}
use Rattle.ty_core.specs.Run.{State, Happening, on, end, Ran, going, went, goes, run_from, run, no_state, next_state, event_fault, finished}
use Rattle.ty_core.specs.Interleavings.{AllCanHappen, IsScript}
use Rattle.ty_core.specs.Script.{event_said, and_then_events, events_of, script_line_fault, ran_by, lines_fault, script_fault, whole_script}
use Rattle.ty_core.specs.steps.Scripts.{finished_feed}
use Rattle.ty_core.specs.declared.simulation.SimFault.{SimFault}
use Rattle.ty_core.proofs.ScriptLines.{both_none, after_early}

-- What a line says is within the limits

if_said : (line : List ℕ) (b : Bool) (e : Event) → cond b (Some (Line line)) None ≡ Some e → FitsScript line e
if_said line true e h = let made : Line line ≡ e = cc in subst (FitsScript line) made refl
if_said line false e h = absurd (cc)

by_kind : (line : List ℕ) (b : Bool) (e : Event) → cond b (cond (is_utf8 line) (Some (Line line)) None) (event_of_words (words line)) ≡ Some e → FitsScript line e
by_kind line true e h = if_said line (is_utf8 line) e h
by_kind line false e h = words_fit line (words line) e h

event_within : (line : List ℕ) (e : Event) → event_of line ≡ Some e → FitsScript line e
unfolding event_of
event_within line e h = by_kind line (is_like_feed line) e h

unless_long : (line : List ℕ) (b : Bool) (e : Event) → cond b None (event_of line) ≡ Some e → FitsScript line e
unless_long line true e h = absurd (cc)
unless_long line false e h = event_within line e h

said_fits : (line : List ℕ) (e : Event) → event_said line ≡ Some e → FitsScript line e
said_fits line e h = unless_long line (is_too_long line) e h

-- and can happen, where little time has passed

can_happen : (s : State) (n : ℕ) (line : List ℕ) (e : Event) → s.now ≤ TICK_MILLISECONDS * n → n < INPUT_BYTES → FitsScript line e → IsEvent s.now e
can_happen s n line (Line text) early few f = tt
can_happen s n line (Join c) early few f = f
can_happen s n line (Step c) early few f = f
can_happen s n line (Get c k) early few f = f.0
can_happen s n line (Hear c) early few f = f
can_happen s n line (CutOff c) early few f = f
can_happen s n line (Tick ms) early few f = omega (arith, early, few, f.1)

-- Lines without a fault

kept_going : (n : ℕ) (line : List ℕ) (e : Event) (o : Option IntakeFault) (s : State) → script_line_fault n line (Some e) (went o s) ≡ None → went o s ≡ going s
kept_going n line e None s h = refl
kept_going n line e (Some f) s h = absurd (cc)

-- all can happen, and the run goes on
abbrev Happens : State → List Happening → Type 0
Happens s hs = AllCanHappen (going s) hs × (t : State) × (run_from (going s) hs ≡ going t)

one_more : (s : State) (e : Event) (hs : List Happening) → IsEvent s.now e → goes (going s) (on e) ≡ going (next_state s e) → Happens (next_state s e) hs → Happens s (on e ∷ hs)
unfolding run_from AllCanHappen
one_more s e hs can to more = (
  (can, subst (λ (r : Ran). AllCanHappen r hs) (sym to) more.0),
  more.1,
  ap (λ (r : Ran). run_from r hs) to ∙ more.2,
)

line_happens : (s : State) (n : ℕ) (l : List ℕ) (ls : List (List ℕ)) (hs : List Happening) (o : Option Event) → event_said l ≡ o
    → ((t : State) → lines_fault (going t) (n + 1) ls ≡ None → t.now ≤ TICK_MILLISECONDS * (n + 1) → Happens t hs)
    → option_or (script_line_fault (n + 1) l o (ran_by (going s) o)) (lines_fault (ran_by (going s) o) (n + 1) ls) ≡ None
    → s.now ≤ TICK_MILLISECONDS * n → n < INPUT_BYTES → (es : List Event) (behind : List Happening) → hs ≡ map on es ++ behind → Happens s (map on (and_then_events o es) ++ behind)
line_happens s n l ls hs None at more none early few es behind is = absurd (cc)
line_happens s n l ls hs (Some e) at more none early few es behind is =
    let P : List Happening → Type 0 = λ ks. Happens s (on e ∷ ks) in
    let both = both_none (script_line_fault (n + 1) l (Some e) (goes (going s) (on e))) (lines_fault (goes (going s) (on e)) (n + 1) ls) none in
    let to : goes (going s) (on e) ≡ going (next_state s e) = kept_going (n + 1) l e (event_fault s e) (next_state s e) both.0 in
    let fits : FitsScript l e = said_fits l e at in
    let next : lines_fault (going (next_state s e)) (n + 1) ls ≡ None = ap (λ (r : Ran). lines_fault r (n + 1) ls) (sym to) ∙ both.1 in
    subst P is (one_more s e hs (can_happen s n l e early few fits) to (more (next_state s e) next (omega (arith, early, after_early s l e fits))))

lines_happen : (s : State) (n : ℕ) (ls : List (List ℕ)) (behind : List Happening) → ((t : State) → Happens t behind) → lines_fault (going s) n ls ≡ None → s.now ≤ TICK_MILLISECONDS * n → n + length ls < INPUT_BYTES → Happens s (map on (events_of ls) ++ behind)
unfolding events_of lines_fault
lines_happen s n [] behind last h early few = last s
lines_happen s n (l ∷ ls) behind last h early few =
    line_happens s n l ls (map on (events_of ls) ++ behind) (event_said l) refl (λ t good soon. lines_happen t (n + 1) ls behind last good soon (omega (arith, few))) h early (omega (arith, few)) (events_of ls) behind refl

-- A script that has ended

ends_well : (s : State) → Happens s (end ∷ [])
unfolding run_from AllCanHappen
ends_well s = ((tt, tt), finished s, refl)

no_more : (ended : Bool) (rest : List ℕ) → length (last_line ended rest) ≤ length rest
no_more ended [] = omega arith
no_more true (x ∷ xs) = omega arith
no_more false (x ∷ xs) = omega arith

few_lines : (bytes : List ℕ) → nat_le INPUT_BYTES (length bytes) ≡ false → length (lines_of (finished_feed bytes)) ≤ length bytes
few_lines bytes b =
    let c : Cut = cut_lines (read_part bytes) in
    let counted : length (lines_of (finished_feed bytes)) ≡ length c.lines + length (last_line true c.rest) = ap length (lines-ended bytes b) ∙ length-append c.lines (last_line true c.rest) in
    let front : length (read_part bytes) ≤ length bytes = omega (arith, length-take (2 ^ 40 - 1) bytes) in
    omega (arith, counted, cut-length (read_part bytes), no_more true c.rest, front)

none_end : (b : Bool) (f : SimFault) → (if b then Some f else None) ≡ None → b ≡ false
none_end true f h = absurd (cc)
none_end false f h = refl

pub happens : (read : Feed) → read.ended ≡ true → script_fault read ≡ None → IsScript (whole_script read) × (s : State) × (run (whole_script read) ≡ going s)
unfolding script_fault
happens read ended good =
    let P : Feed → Type 0 = λ r. IsScript (whole_script r) × (s : State) × (run (whole_script r) ≡ going s) in
    let same : finished_feed read.bytes ≡ read = ap (λ (b : Bool). record { bytes = read.bytes; ended = b }) (sym ended) in
    let all = both_none _ _ good in
    let rest = both_none _ _ all.1 in
    let few : nat_le INPUT_BYTES (length read.bytes) ≡ false = none_end (nat_le INPUT_BYTES (length read.bytes)) _ rest.1 in
    let lines : lines_fault (going no_state) 0 (lines_of (finished_feed read.bytes)) ≡ None = ap (λ (r : Feed). lines_fault (going no_state) 0 (lines_of r)) same ∙ all.0 in
    subst P same (lines_happen no_state 0 (lines_of (finished_feed read.bytes)) (end ∷ []) ends_well lines (omega arith) (omega (arith, few_lines read.bytes few, leb-false INPUT_BYTES (length read.bytes) few)))
