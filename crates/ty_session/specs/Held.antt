-- What a `Session` holds, and which story it stands for.
use Rattle.std.specs.Prelude.{◌≡◌, ℕ, ◌+◌, ◌≤◌, ◌<◌, List, [], ◌++◌, length, drop, take, Bool, true, false, Option, None, IsSome}
use Rattle.std.specs.List.{list_all}
use Rattle.ty_base.specs.Feed.{replay}
use Rattle.ty_base.specs.declared.status.Status.{Status}
use Rattle.ty_base.specs.declared.delta.Delta.{Delta}
use Rattle.ty_base.specs.declared.entry.Entry.{Entry}
use Rattle.ty_wire.specs.Held.{FramesHeld}
use Rattle.ty_wire.specs.Stream.{FramesStand}
use Rattle.ty_wire.specs.Talk.{world_after, ping_fits, IsTalk}
use Rattle.ty_wire.specs.Wire.{frames}
use Rattle.ty_wire.specs.declared.message.Msg.{Msg}
use Rattle.ty_marks.specs.Marks.{Mark, AreMarks, end_after, bytes_of}
use Rattle.ty_session.specs.Client.{first_client_fault}
use Rattle.ty_session.specs.Story.{Story, held_deltas}
use Rattle.ty_session.specs.declared.phase.Phase.{Phase}
use Rattle.ty_session.specs.declared.phase.Phase.TheVariants.{Waiting, Greeted, Joined, Over}
use Rattle.ty_session.specs.declared.reason.Reason.{Reason}
use Rattle.ty_session.specs.declared.stance.Stance.{Stance}

-- the fields of a `Session`, as contracts see them: the number and status of the last breadcrumb
-- and of the last crumb end, the deltas between them, the bytes that are queued, the client's
-- unfinished frame and its number
pub record SessionHeld : Type 0 where
  pub stance : Stance
  pub number : ℕ
  pub status : Status
  pub ended : ℕ
  pub told : Status
  pub held : List Delta
  pub out : List ℕ
  pub unread : FramesHeld
  pub frame : ℕ
  pub spent : Bool

-- behind the bytes that were removed, these are the bytes of the marks
pub record IsQueued (out : List ℕ) (s : Story) : Type 0 where
  pub within : s.removed ≤ length (bytes_of s.entries s.marks)
  pub rest : out ≡ drop s.removed (bytes_of s.entries s.marks)

-- the client's bytes are whole messages in their places, and an unfinished frame
pub record IsHearing (frame : ℕ) (reason : Option Reason) (unread : FramesHeld) (bytes : List ℕ)
    (messages : List Msg) : Type 0 where
  pub frames_stand : FramesStand unread bytes messages
  pub no_wire_fault : unread.fault ≡ None
  pub good : first_client_fault 1 messages ≡ None
  pub no_reason : reason ≡ None
  pub frame_is : frame ≡ length messages + 1

-- what is so in each phase
abbrev pub IsIn : Phase → ℕ → Option Reason → FramesHeld → List ℕ → List Msg → List Mark → List Entry
    → Type 0
IsIn Waiting frame reason unread bytes messages marks entries =
    IsHearing frame reason unread bytes messages × (messages ≡ []) × (marks ≡ []) × (entries ≡ [])
IsIn Greeted frame reason unread bytes messages marks entries =
    IsHearing frame reason unread bytes messages × (0 < length messages) × (marks ≡ []) × (entries ≡ [])
IsIn Joined frame reason unread bytes messages marks entries =
    IsHearing frame reason unread bytes messages × (0 < length messages) × (0 < length marks)
IsIn Over frame reason unread bytes messages marks entries = IsSome reason

pub record SessionStands (v : SessionHeld) (s : Story) : Type 0 where
  pub unspent : v.spent ≡ false
  pub stance : v.stance ≡ s.stance
  pub number : v.number ≡ length s.entries
  pub status : v.status ≡ (replay s.entries).status
  pub ended : v.ended ≡ end_after 0 s.marks
  pub told : v.told ≡ (world_after s.entries (end_after 0 s.marks)).status
  pub held : v.held ≡ held_deltas s
  pub marks : AreMarks s.marks (length s.entries)
  pub queued : IsQueued v.out s
  pub phase : IsIn s.stance.phase v.frame s.stance.reason v.unread s.bytes s.messages s.marks
      s.entries

-- the bytes that were removed, and then these, are the bytes of a talk over the entries, whose last
-- number is that of the last crumb end
pub record IsTalkOf (out : List ℕ) (s : Story) : Type 0 where
  pub first : ℕ
  pub numbers : List ℕ
  pub messages : List Msg
  pub talk : IsTalk s.entries first numbers messages
  pub pings : list_all ping_fits messages ≡ true
  pub bytes : take s.removed (frames messages) ++ out ≡ frames messages
