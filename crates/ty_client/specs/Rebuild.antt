-- What a `Rebuild` stands for.
use Rattle.std.specs.Prelude.{◌≡◌, ℕ, Bool, true, false, List, ◌++◌, length, Option, None, Some}
use Rattle.ty_base.specs.Feed.{Pairs}
use Rattle.ty_base.specs.declared.status.Status.{Status}
use Rattle.ty_wire.specs.Wire.{frames}
use Rattle.ty_wire.specs.Stream.{FramesStand}
use Rattle.ty_wire.specs.Held.{FramesHeld}
use Rattle.ty_wire.specs.declared.message.Msg.{Msg}
use Rattle.ty_client.specs.declared.fault.StreamFault.{StreamFault}
use Rattle.ty_client.specs.Places.{next_frame, latest, told_status, told_number, has_status, judged}
use Rattle.ty_client.specs.Rebuilt.{Rebuilt, rebuilt_map, ats, ats_after, last_held, pongs}
use Rattle.ty_client.specs.Heard.{Hears, Holds}

-- what is kept of a connection's messages
pub record Staged : Type 0 where
  pub frame : ℕ
  pub status : Option Status
  pub fresh : Bool
  pub number : Option ℕ
  pub pairs : Pairs

abbrev pub staged : List Msg → Staged
staged ms = record {
  frame = next_frame ms;
  status = latest told_status ms;
  fresh = has_status ms;
  number = latest told_number ms;
  pairs = rebuilt_map ms;
}

-- the fields of a `Rebuild`, as contracts see them
pub record RebuildHeld : Type 0 where
  pub unread : FramesHeld
  pub stage : Staged
  pub held : Option Rebuilt
  pub up : List ℕ
  pub fault : Option StreamFault
  pub spent : Bool

-- some history is behind the unread bytes, unless memory ran out
abbrev pub HasHistory : Bool → FramesHeld → Type 0
HasHistory true unread = Unit {0}
HasHistory false unread = (bytes : List ℕ) × (ms : List Msg) × FramesStand unread bytes ms

-- where there is no fault, all messages so far were good, and the stage is theirs
pub record IsGoodSoFar (unread : FramesHeld) (stage : Staged) (bytes : List ℕ) (ms : List Msg) : Type 0 where
  pub frames_stand : FramesStand unread bytes ms
  pub no_wire_fault : unread.fault ≡ None
  pub good : judged ms ≡ record { good = ms; fault = None }
  pub stage_is : stage ≡ staged ms

abbrev pub IsGoodUnless : Option StreamFault → FramesHeld → Staged → List ℕ → List Msg → Type 0
IsGoodUnless None unread stage bytes ms = IsGoodSoFar unread stage bytes ms
IsGoodUnless (Some f) unread stage bytes ms = Unit {0}

-- of this connection alone: its bytes so far, and the messages before their first fault
pub record ConnectionStands (r : RebuildHeld) (bytes : List ℕ) (ms : List Msg) : Type 0 where
  pub unspent : r.spent ≡ false
  pub hears : Hears bytes ms r.fault
  pub goes_on : IsGoodUnless r.fault r.unread r.stage bytes ms

-- it stands for the connections before, and this one so far: its bytes, and the messages before
-- their first fault
pub record RebuildStands (r : RebuildHeld) (before : List (List ℕ)) (bytes : List ℕ) (ms : List Msg) : Type 0 where
  pub unspent : r.spent ≡ false
  pub hears : Hears bytes ms r.fault
  pub goes_on : IsGoodUnless r.fault r.unread r.stage bytes ms
  pub held_before : Option Rebuilt
  pub holds : Holds before held_before
  pub held_is : r.held ≡ last_held held_before (ats ms)

-- how many bytes the unfinished frame has so far: none after a fault
abbrev pub unfinished_by : Option StreamFault → FramesHeld → ℕ
unfinished_by None unread = length unread.rest
unfinished_by (Some f) unread = 0

abbrev pub unfinished : RebuildHeld → ℕ
unfinished r = unfinished_by r.fault r.unread

-- what a piece brings beyond the bytes before it: more good messages, what is rebuilt at their
-- crumb ends, and a pong for each ping
pub record Brought (old new : RebuildHeld) (before : List (List ℕ)) (bytes piece : List ℕ) (ms : List Msg) (at_ends : List Rebuilt) : Type 0 where
  pub more : List Msg
  pub stands : RebuildStands new before (bytes ++ piece) (ms ++ more)
  pub at_ends_are : at_ends ≡ ats_after ms more
  pub up : new.up ≡ old.up ++ frames (pongs more)

-- the same of this connection alone
pub record BroughtHere (old new : RebuildHeld) (bytes piece : List ℕ) (ms : List Msg) (at_ends : List Rebuilt) : Type 0 where
  pub more : List Msg
  pub stands : ConnectionStands new (bytes ++ piece) (ms ++ more)
  pub at_ends_are : at_ends ≡ ats_after ms more
  pub up : new.up ≡ old.up ++ frames (pongs more)
