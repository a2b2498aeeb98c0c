-- The run of a list of events: the feed and the times of its breadcrumbs, and each client with its connection.
use Rattle.std.specs.Prelude.{ℕ, ◌+◌, ◌-◌, ◌&&◌, List, [], ◌∷◌, ◌++◌, length, map, replicate, Bool, Option, None, Some, option_and_then, option_map, nat_le, slice_index_or, slice_set, if◌then◌else◌}
use Rattle.ty_base.specs.declared.item.Item.{Item}
use Rattle.ty_base.specs.declared.entry.Entry.{Entry}
use Rattle.ty_base.specs.declared.limits.TheConstants.{INPUT_BYTES}
use Rattle.ty_base.specs.Feed.{book}
use Rattle.ty_wire.specs.Wire.{frames}
use Rattle.ty_intake.specs.Lines.{Feed, no_feed, fed_with, ended_now}
use Rattle.ty_intake.specs.Faults.{feed_fault}
use Rattle.ty_intake.specs.Batches.{items_of}
use Rattle.ty_intake.specs.declared.intake.IntakeFault.{IntakeFault}
use Rattle.ty_intake.specs.declared.intake.IntakeFault.TheVariants.{TooMuch}
use Rattle.ty_core.specs.Clients.{Trail, newest, no_client, sent, is_heard, join_link, hear_link, step_link, got_with, get_client, tick_link}
use Rattle.ty_core.specs.declared.client.Client.{Client}
use Rattle.ty_core.specs.declared.client.Connection.{Connection}
use Rattle.ty_script.specs.declared.event.Event.{Event}
use Rattle.ty_script.specs.declared.event.Event.TheVariants.{Line, Join, Step, Get, Hear, Cut, Tick}
use Rattle.ty_script.specs.declared.event.TheConstants.{CLIENTS}

-- the feed so far, the time of each breadcrumb from 0 on, the time now, and the clients, of which client c is at place c - 1
pub record State : Type 0 where
  pub feed : Feed
  pub times : List ℕ
  pub now : ℕ
  pub clients : List Client

abbrev pub no_state : State
no_state = record {
  feed = no_feed;
  times = 0 ∷ [];
  now = 0;
  clients = replicate CLIENTS no_client;
}

abbrev pub feed_items : State → List Item
feed_items s = items_of s.feed

abbrev pub book_of : State → List Entry
book_of s = book s.feed.ended (feed_items s)

abbrev pub trail : State → Trail
trail s = record { entries = book_of s; times = s.times }

abbrev pub client : State → ℕ → Client
client s c = slice_index_or s.clients (c - 1) no_client

abbrev pub link : State → ℕ → Option Connection
link s c = (client s c).link

-- Events

-- each new breadcrumb has the time now
abbrev pub timed : State → State
timed s = record s { times = s.times ++ replicate (length (book_of s) + 1 - length s.times) s.now }

-- a line ends with a byte 10
abbrev pub lined : List ℕ → State → State
lined line s = timed (record s { feed = fed_with s.feed (line ++ 10 ∷ []) })

abbrev pub finished : State → State
finished s = timed (record s { feed = ended_now s.feed })

abbrev pub with_client : State → ℕ → Client → State
with_client s c new = record s { clients = slice_set s.clients (c - 1) new }

abbrev pub with_link : State → ℕ → Option Connection → State
with_link s c new = with_client s c (record (client s c) { link = new })

abbrev pub tick_client : ℕ → Client → Client
tick_client now c = record c { link = option_and_then (tick_link now) c.link }

abbrev pub behind_tick : ℕ → State → State
behind_tick ms s = record s { now = s.now + ms; clients = map (tick_client (s.now + ms)) s.clients }

abbrev pub next_state : State → Event → State
next_state s (Line line) = lined line s
next_state s (Join c) = with_link s c (join_link s.now (link s c))
next_state s (Hear c) = with_link s c (option_map (hear_link (newest (trail s)) s.now) (link s c))
next_state s (Step c) = with_link s c (option_and_then (step_link (trail s) s.now) (link s c))
next_state s (Get c n) = with_client s c (get_client (book_of s) n (client s c).held (link s c))
next_state s (Cut c) = with_link s c None
next_state s (Tick ms) = behind_tick ms s

-- Faults

abbrev pub too_much_if : Bool → Option IntakeFault
too_much_if b = if b then Some TooMuch else None

-- byte number INPUT_BYTES of a connection reaches the client, or the session
abbrev pub get_fault : List Entry → ℕ → Option Connection → Option IntakeFault
get_fault es n None = None
get_fault es n (Some k) = too_much_if (nat_le INPUT_BYTES (got_with es k n))

abbrev pub hear_fault : List Entry → Option Connection → Option IntakeFault
hear_fault es None = None
hear_fault es (Some k) = too_much_if (is_heard k && nat_le INPUT_BYTES (length (frames (sent es k))))

abbrev pub event_fault : State → Event → Option IntakeFault
event_fault s (Line line) = feed_fault (lined line s).feed
event_fault s (Hear c) = hear_fault (book_of s) (link s c)
event_fault s (Get c n) = get_fault (book_of s) n (link s c)
event_fault s (Join c) = None
event_fault s (Step c) = None
event_fault s (Cut c) = None
event_fault s (Tick ms) = None

-- The run

-- an event, or the feed's end, behind which no line comes
pub data Happening : Type 0 where
  on : Event → Happening
  end : Happening

-- it goes on, or a fault has ended it
pub data Ran : Type 0 where
  going : State → Ran
  over : IntakeFault → Ran

abbrev pub went : Option IntakeFault → State → Ran
went None s = going s
went (Some f) s = over f

abbrev pub goes : Ran → Happening → Ran
goes (going s) (on e) = went (event_fault s e) (next_state s e)
goes (going s) end = going (finished s)
goes (over f) h = over f

unfoldable pub run_from : Ran → List Happening → Ran
run_from r [] = r
run_from r (h ∷ hs) = run_from (goes r h) hs

abbrev pub run : List Happening → Ran
run hs = run_from (going no_state) hs
