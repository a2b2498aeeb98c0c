-- One connection: which session and which rebuilding stand for it.
use Rattle.std.specs.Prelude.{◌≡◌, ℕ, ◌-◌, ◌<◌, ◌≤◌, List, length, take, Bool, true, false, None}
use Rattle.ty_base.specs.declared.entry.Entry.{Entry}
use Rattle.ty_base.specs.declared.limits.TheConstants.{INPUT_BYTES}
use Rattle.ty_wire.specs.Wire.{frames}
use Rattle.ty_wire.specs.declared.message.Msg.{Msg}
use Rattle.ty_client.specs.Rebuild.{RebuildHeld, RebuildStands}
use Rattle.ty_marks.specs.Marks.{AreMarks}
use Rattle.ty_session.specs.declared.stance.Stance.{Stance}
use Rattle.ty_session.specs.Story.{Story}
use Rattle.ty_session.specs.Held.{SessionHeld, SessionStands}
use Rattle.ty_session.specs.declared.phase.Phase.TheVariants.{Waiting, Joined}
use Rattle.ty_session.specs.declared.phase.Phase.{Phase}
use Rattle.ty_core.specs.declared.client.Connection.{Connection}
use Rattle.ty_core.specs.Clients.{down, delivered, sent, unheard}

abbrev pub phase_of : Bool → Phase
phase_of true = Joined
phase_of false = Waiting

-- the story of a connection's session. `looked` isn't in a run: a run never asks whether a look is due
abbrev pub stance_of : ℕ → Connection → Stance
stance_of looked k = record {
  phase = phase_of k.has_joined;
  reason = None;
  opened = k.opened;
  heard = k.heard;
  looked = looked;
  joined = k.joined;
  pinged = k.pinged;
}

abbrev pub heard_before : List Entry → Connection → List Msg
heard_before es k = take (length (sent es k) - k.up) (sent es k)

abbrev pub story_by : List Entry → List Msg → ℕ → Connection → Story
story_by entries heard looked k = record {
  stance = stance_of looked k;
  entries = entries;
  marks = k.marks;
  removed = k.got;
  bytes = frames heard;
  messages = heard;
}

abbrev pub story_of : List Entry → ℕ → Connection → Story
story_of es looked k = story_by (take k.offered es) (heard_before es k) looked k

-- what is so of each connection of a run
pub record IsConnection (es : List Entry) (k : Connection) : Type 0 where
  pub marks : AreMarks k.marks k.offered
  pub offered : k.offered ≤ length es
  pub got : k.got ≤ length (down es k)
  pub got_short : k.got < INPUT_BYTES
  pub up : k.up ≤ length (sent es k)

-- the session is its story, the client has heard the delivered bytes, and its answers are on their way up
pub record IsLink (rebuild : RebuildHeld) (session : SessionHeld) (es : List Entry) (k : Connection) (before : List (List ℕ)) : Type 0 where
  pub connection : IsConnection es k
  pub looked : ℕ
  pub session_stands : SessionStands session (story_of es looked k)
  pub client_stands : RebuildStands rebuild before (take k.got (down es k)) (delivered es k)
  pub no_fault : rebuild.fault ≡ None
  pub up : rebuild.up ≡ frames (unheard es k)
