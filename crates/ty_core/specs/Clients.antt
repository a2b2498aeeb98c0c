-- What each event makes of a client and its connection, by what the publisher has made and the time.
use Rattle.std.specs.Prelude.{ℕ, ◌+◌, ◌-◌, ◌&&◌, min, List, [], ◌∷◌, ◌++◌, length, drop, Bool, true, false, not, cond, Option, None, Some, nat_lt, slice_index, if◌then◌else◌, codes}
use Rattle.std.specs.List.{fold, filter_map}
use Rattle.ty_base.specs.Drops.{is_unhello, is_silent, is_slow}
use Rattle.ty_base.specs.declared.entry.Entry.{Entry}
use Rattle.ty_base.specs.declared.delta.Delta.{Delta}
use Rattle.ty_wire.specs.Talk.{deltas_between}
use Rattle.ty_wire.specs.Whole.{whole_in}
use Rattle.ty_wire.specs.declared.message.Msg.{Msg}
use Rattle.ty_wire.specs.declared.message.Msg.TheVariants.{ClientHello}
use Rattle.ty_marks.specs.Marks.{start, group, ping, end_after, messages_of, bytes_of}
use Rattle.ty_session.specs.Times.{is_ping_due, closes_group}
use Rattle.ty_client.specs.Places.{told_number}
use Rattle.ty_client.specs.Rebuilt.{pongs}
use Rattle.ty_core.specs.declared.client.Client.{Client}
use Rattle.ty_core.specs.declared.client.Connection.{Connection}

-- the entries of the book, and the time of each breadcrumb from 0 on
pub record Trail : Type 0 where
  pub entries : List Entry
  pub times : List ℕ

abbrev pub newest : Trail → ℕ
newest p = length p.entries

abbrev pub time_of : Trail → ℕ → ℕ
time_of p n = slice_index p.times n

abbrev pub no_client : Client
no_client = record { held = None; link = None }

-- Both directions

-- what was queued for the client, as messages and as bytes
abbrev pub told : List Entry → Connection → List Msg
told es k = messages_of es k.marks

abbrev pub down : List Entry → Connection → List ℕ
down es k = bytes_of es k.marks

-- what ends in the bytes that were delivered
abbrev pub delivered : List Entry → Connection → List Msg
delivered es k = whole_in k.got (told es k)

-- the client's messages so far: its hello, and a pong for each ping that was delivered
abbrev pub sent : List Entry → Connection → List Msg
sent es k = ClientHello 1 (codes "follower") ∷ pongs (delivered es k)

-- those that weren't heard, which are the last `up`
abbrev pub unheard : List Entry → Connection → List Msg
unheard es k = drop (length (sent es k) - k.up) (sent es k)

-- Opening

abbrev pub new_link : ℕ → Connection
new_link now = record {
  opened = now;
  heard = now;
  joined = 0;
  pinged = 0;
  has_joined = false;
  up = 1;
  marks = [];
  offered = 0;
  got = 0;
}

abbrev pub join_link : ℕ → Option Connection → Option Connection
join_link now None = Some (new_link now)
join_link now (Some k) = Some k

-- Hearing

abbrev pub is_heard : Connection → Bool
is_heard k = nat_lt 0 k.up

-- the hello is heard, and the client joins
abbrev pub is_joining : Connection → Bool
is_joining k = is_heard k && not k.has_joined

abbrev pub joined_link : ℕ → ℕ → Connection → Connection
joined_link newest now k = record k {
  has_joined = true;
  joined = now;
  pinged = now;
  marks = start newest ∷ [];
  offered = newest;
}

abbrev pub heard_at : ℕ → Connection → Connection
heard_at now k = record k { heard = now; up = 0 }

abbrev pub hear_link : ℕ → ℕ → Connection → Connection
hear_link newest now k =
    if not (is_heard k) then k else (
    if k.has_joined then heard_at now k else joined_link newest now (heard_at now k))

-- Stepping

-- a breadcrumb was offered whose end isn't queued
abbrev pub has_ungrouped : Connection → Bool
has_ungrouped k = nat_lt (end_after 0 k.marks) k.offered

-- the deltas behind the last crumb end that is queued
abbrev pub ungrouped_deltas : List Entry → Connection → List Delta
ungrouped_deltas es k = deltas_between es (end_after 0 k.marks) k.offered

abbrev pub closed_link : Connection → Connection
closed_link k = record k { marks = k.marks ++ group k.offered ∷ [] }

abbrev pub idle_link : Connection → Connection
idle_link k = cond (has_ungrouped k) (closed_link k) k

abbrev pub next_link : Connection → Connection
next_link k = record k { offered = k.offered + 1 }

-- behind the breadcrumb that was offered now
abbrev pub grouped_link : Trail → ℕ → Connection → Connection
grouped_link p now k =
    cond (closes_group (time_of p k.offered) now (length (ungrouped_deltas p.entries k))) (closed_link k) k

abbrev pub is_behind : Trail → Connection → Bool
is_behind p k = nat_lt k.offered (newest p)

abbrev pub is_too_slow : Trail → ℕ → Connection → Bool
is_too_slow p now k = is_slow (time_of p (k.offered + 1)) k.joined now

abbrev pub step_link : Trail → ℕ → Connection → Option Connection
step_link p now k =
    if not k.has_joined then Some k else (
    if not (is_behind p k) then Some (idle_link k) else (
    if is_too_slow p now k then None else Some (grouped_link p now (next_link k))))

-- Delivery

-- how many bytes are delivered with n more, and the messages that end in these
abbrev pub got_with : List Entry → Connection → ℕ → ℕ
got_with es k n = min (k.got + n) (length (down es k))

abbrev pub came : List Entry → Connection → ℕ → List Msg
came es k n = drop (length (delivered es k)) (whole_in (got_with es k n) (told es k))

-- the numbers of the crumb ends among them
abbrev pub numbers_came : List Entry → Connection → ℕ → List ℕ
numbers_came es k n = filter_map told_number (came es k n)

abbrev pub get_link : List Entry → ℕ → Connection → Connection
get_link es n k = record k { got = got_with es k n; up = k.up + length (pongs (came es k n)) }

-- the last number, or the one that was held before
abbrev pub last_number : Option ℕ → List ℕ → Option ℕ
last_number held ns = fold (λ _ n. Some n) held ns

abbrev pub get_client : List Entry → ℕ → Option ℕ → Option Connection → Client
get_client es n held None = record { held = held; link = None }
get_client es n held (Some k) = record { held = last_number held (numbers_came es k n); link = Some (get_link es n k) }

-- Time

abbrev pub is_dropped : ℕ → Connection → Bool
is_dropped now k = if k.has_joined then is_silent k.heard now else is_unhello k.opened now

abbrev pub is_pinged : ℕ → Connection → Bool
is_pinged now k = k.has_joined && is_ping_due k.pinged now

abbrev pub ping_link : ℕ → Connection → Connection
ping_link now k = cond (is_pinged now k) (record k { pinged = now; marks = k.marks ++ ping now ∷ [] }) k

abbrev pub tick_link : ℕ → Connection → Option Connection
tick_link now k = if is_dropped now k then None else Some (ping_link now k)
