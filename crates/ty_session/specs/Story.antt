-- What a session stands for: its phase and times, the entries that it was given, its marks, how
-- many bytes were removed, and what the client said. Each call of a session adds to this story, by
-- one function here.
use Rattle.std.specs.Prelude.{ℕ, ◌+◌, ◌&&◌, List, [], ◌∷◌, ◌++◌, length, Bool, true, false, cond, None, Some, nat_lt}
use Rattle.ty_base.specs.declared.entry.Entry.{Entry}
use Rattle.ty_base.specs.declared.delta.Delta.{Delta}
use Rattle.ty_base.specs.Feed.{World}
use Rattle.ty_wire.specs.Wire.{frames}
use Rattle.ty_wire.specs.Talk.{deltas_between, snapshot, group_messages}
use Rattle.ty_wire.specs.declared.message.Msg.TheVariants.{ServerHello}
use Rattle.ty_wire.specs.declared.message.Msg.{Msg}
use Rattle.ty_marks.specs.Marks.{Mark, start, group, ping, end_after}
use Rattle.ty_session.specs.Times.{is_ping_due, closes_group}
use Rattle.ty_session.specs.declared.phase.Phase.{Phase}
use Rattle.ty_session.specs.declared.phase.Phase.TheVariants.{Waiting, Greeted, Joined, Over}
use Rattle.ty_session.specs.declared.reason.Reason.{Reason}
use Rattle.ty_session.specs.declared.stance.Stance.{Stance}

pub record Story : Type 0 where
  pub stance : Stance
  pub entries : List Entry
  pub marks : List Mark
  pub removed : ℕ
  pub bytes : List ℕ
  pub messages : List Msg

abbrev pub opened_at : ℕ → Stance
opened_at now = record {
  phase = Waiting;
  reason = None;
  opened = now;
  heard = now;
  looked = now;
  joined = 0;
  pinged = 0;
}

abbrev pub begun : ℕ → Story
begun now = record {
  stance = opened_at now;
  entries = [];
  marks = [];
  removed = 0;
  bytes = [];
  messages = [];
}

-- Hearing

-- a client that says its hello is greeted
abbrev pub greeted_by : Phase → Phase
greeted_by Waiting = Greeted
greeted_by Greeted = Greeted
greeted_by Joined = Joined
greeted_by Over = Over

-- the client was looked for, and heard where messages came
abbrev pub heard_by : ℕ → List Msg → Stance → Stance
heard_by now [] t = record t { looked = now }
heard_by now (m ∷ ms) t = record t { looked = now; heard = now; phase = greeted_by t.phase }

-- more bytes came with more messages
abbrev pub heard_more : ℕ → List ℕ → List Msg → Story → Story
heard_more now bytes more s = record s {
  stance = heard_by now more s.stance;
  bytes = s.bytes ++ bytes;
  messages = s.messages ++ more;
}

abbrev pub looked_at : ℕ → Story → Story
looked_at now s = record s { stance = record s.stance { looked = now } }

-- Time

abbrev pub is_joined : Phase → Bool
is_joined Waiting = false
is_joined Greeted = false
is_joined Joined = true
is_joined Over = false

abbrev pub pings_at : ℕ → Stance → Bool
pings_at now t = is_joined t.phase && is_ping_due t.pinged now

abbrev pub pinged_at : ℕ → Story → Story
pinged_at now s = record s {
  stance = record s.stance { pinged = now };
  marks = s.marks ++ ping now ∷ [];
}

abbrev pub ticked : ℕ → Story → Story
ticked now s = cond (pings_at now s.stance) (pinged_at now s) s

-- Breadcrumbs

abbrev pub joined_at : ℕ → List Entry → Story → Story
joined_at now entries s = record s {
  stance = record s.stance { phase = Joined; joined = now; pinged = now };
  entries = entries;
  marks = start (length entries) ∷ [];
}

-- there are entries behind the last crumb end
abbrev pub is_holding : Story → Bool
is_holding s = nat_lt (end_after 0 s.marks) (length s.entries)

-- their deltas
abbrev pub held_deltas : Story → List Delta
held_deltas s = deltas_between s.entries (end_after 0 s.marks) (length s.entries)

abbrev pub closed : Story → Story
closed s = record s { marks = s.marks ++ group (length s.entries) ∷ [] }

abbrev pub with_entry : Entry → Story → Story
with_entry e s = record s { entries = s.entries ++ e ∷ [] }

-- one entry more, of a breadcrumb that was made at `at`
abbrev pub offered_at : ℕ → ℕ → Entry → Story → Story
offered_at at now e s =
    let t = with_entry e s in
    cond (closes_group at now (length (held_deltas t))) (closed t) t

abbrev pub idled : Story → Story
idled s = cond (is_holding s) (closed s) s

-- The end

abbrev pub over_for : Reason → Stance → Stance
over_for r t = record t { phase = Over; reason = Some r }

abbrev pub left_by : Reason → Story → Story
left_by r s = record s { stance = over_for r s.stance }

abbrev pub given_up : ℕ → Story → Story
given_up n s = record s { removed = s.removed + n }

-- the bytes of the joining, by the breadcrumb's world and number
abbrev pub snapshot_bytes : World → ℕ → List ℕ
snapshot_bytes w n = frames (ServerHello 1 ∷ group_messages (snapshot w) (Some w.status) n)
