-- What a run tells of each event, by the state before it. The status and the pairs of a breadcrumb are those of its world,
-- the fold of the feed's items up to its cut.
use Rattle.std.specs.Prelude.{ℕ, ◌+◌, ◌-◌, List, [], ◌∷◌, ◌++◌, map, not, Option, None, Some, option_map, if◌then◌else◌}
use Rattle.std.specs.List.{range_with_len}
use Rattle.ty_base.specs.declared.entry.Entry.{Entry}
use Rattle.ty_client.specs.Rebuilt.{Rebuilt}
use Rattle.ty_client.specs.Worlds.{rebuilt_world}
use Rattle.ty_core.specs.Clients.{Trail, newest, time_of, is_joining, is_behind, is_too_slow, numbers_came, is_dropped}
use Rattle.ty_core.specs.Run.{State, feed_items, book_of, trail, client, link, lined, finished, Happening, on, end, Ran, going, over, goes, no_state}
use Rattle.ty_core.specs.declared.client.Client.{Client}
use Rattle.ty_core.specs.declared.client.Connection.{Connection}
use Rattle.ty_script.specs.declared.event.Event.{Event}
use Rattle.ty_script.specs.declared.event.Event.TheVariants.{Line, Join, Step, Get, Hear, Cut, Tick}
use Rattle.ty_core.specs.declared.told.Told.{Told}
use Rattle.ty_core.specs.declared.told.Told.TheVariants.{Published, Ended, Opened, Present, Heard, Joined, Stepped, Pending, Waiting, TooSlow, Rebuilt as AtEnd, Still, Lost, NoHello, NoPong, Absent}

-- breadcrumb n
abbrev pub world_shown : State → ℕ → Rebuilt
world_shown s n = rebuilt_world s.feed.ended (feed_items s) n

-- the breadcrumbs that weren't there before
abbrev pub news : State → State → List Told
news old new =
    map (λ n. Published (world_shown new n)) (range_with_len (newest (trail old) + 1) (newest (trail new) - newest (trail old)))

abbrev pub told_join : ℕ → Option Connection → List Told
told_join c None = Opened c ∷ []
told_join c (Some k) = Present c ∷ []

abbrev pub told_hear : ℕ → ℕ → Option Connection → List Told
told_hear newest c None = Absent c ∷ []
told_hear newest c (Some k) = Heard c k.up ∷ (if is_joining k then Joined c newest ∷ [] else [])

abbrev pub told_step : Trail → ℕ → ℕ → Option Connection → List Told
told_step p now c None = Absent c ∷ []
told_step p now c (Some k) =
    if not k.has_joined then Waiting c ∷ [] else (
    if not (is_behind p k) then Pending c k.offered ∷ [] else (
    if is_too_slow p now k then TooSlow c (time_of p (k.offered + 1)) now ∷ [] else Stepped c (k.offered + 1) ∷ []))

-- the crumb ends that came, or else what is still held
abbrev pub told_ends : (ℕ → Rebuilt) → ℕ → Option ℕ → List ℕ → List Told
told_ends show c held [] = Still c (option_map show held) ∷ []
told_ends show c held (n ∷ ns) = map (λ m. AtEnd c (show m)) (n ∷ ns)

abbrev pub told_get : (ℕ → Rebuilt) → List Entry → ℕ → ℕ → Option ℕ → Option Connection → List Told
told_get show es c n held None = Absent c ∷ []
told_get show es c n held (Some k) = told_ends show c held (numbers_came es k n)

abbrev pub told_cut : ℕ → Option Connection → List Told
told_cut c None = Absent c ∷ []
told_cut c (Some k) = Lost c ∷ []

abbrev pub told_drop : ℕ → ℕ → Connection → Told
told_drop now c k = if k.has_joined then NoPong c k.heard now else NoHello c k.opened now

abbrev pub told_tick : ℕ → ℕ → Option Connection → List Told
told_tick now c None = []
told_tick now c (Some k) = if is_dropped now k then told_drop now c k ∷ [] else []

-- client after client, the first of which has this number
unfoldable pub told_ticks : ℕ → ℕ → List Client → List Told
told_ticks now c [] = []
told_ticks now c (x ∷ xs) = told_tick now c x.link ++ told_ticks now (c + 1) xs

abbrev pub event_told : State → Event → List Told
event_told s (Line line) = news s (lined line s)
event_told s (Join c) = told_join c (link s c)
event_told s (Hear c) = told_hear (newest (trail s)) c (link s c)
event_told s (Step c) = told_step (trail s) s.now c (link s c)
event_told s (Get c n) = told_get (world_shown s) (book_of s) c n (client s c).held (link s c)
event_told s (Cut c) = told_cut c (link s c)
event_told s (Tick ms) = told_ticks (s.now + ms) 1 s.clients

abbrev pub told_end : State → List Told
told_end s = news s (finished s) ++ Ended (newest (trail (finished s))) ∷ []

abbrev pub told_of : Ran → Happening → List Told
told_of (going s) (on e) = event_told s e
told_of (going s) end = told_end s
told_of (over f) h = []

-- a happening that brings a fault tells nothing
abbrev pub told_if_going : Ran → List Told → List Told
told_if_going (going s) ts = ts
told_if_going (over f) ts = []

unfoldable pub report_from : Ran → List Happening → List Told
report_from r [] = []
report_from r (h ∷ hs) = told_if_going (goes r h) (told_of r h) ++ report_from (goes r h) hs

abbrev pub report : List Happening → List Told
report hs = report_from (going no_state) hs
