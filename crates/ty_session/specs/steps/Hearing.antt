-- What bytes of a client make of a session.
use Rattle.std.specs.Prelude.{◌≡◌, ℕ, ◌+◌, ◌==◌, ◌++◌, List, length, Option, option_map, if◌then◌else◌}
use Rattle.std.specs.Option.{option_or}
use Rattle.ty_wire.specs.Held.{FramesHeld}
use Rattle.ty_wire.specs.Stream.{FramesStand}
use Rattle.ty_wire.specs.declared.message.Msg.{Msg}
use Rattle.ty_session.specs.Client.{first_client_fault}
use Rattle.ty_session.specs.Held.{SessionHeld}
use Rattle.ty_session.specs.Story.{greeted_by}
use Rattle.ty_session.specs.declared.reason.Reason.{Reason}
use Rattle.ty_session.specs.declared.reason.Reason.TheVariants.{BadBytes}
use Rattle.ty_session.specs.declared.stance.Stance.{Stance}

-- messages came behind others, and the first fault of these, or the wire's
pub record MoreMessages (unread : FramesHeld) (bytes : List ℕ) (ms : List Msg) (count : ℕ)
    (fault : Option Reason) : Type 0 where
  pub more : List Msg
  pub counted : count ≡ length more
  pub stands : FramesStand unread bytes (ms ++ more)
  pub fault_is : fault
      ≡ option_or (first_client_fault (length ms + 1) more) (option_map BadBytes unread.fault)

-- so many messages came with these bytes, and nothing else changed
pub record IsListened (old new : SessionHeld) (bytes : List ℕ) (count : ℕ)
    (fault : Option Reason) : Type 0 where
  pub same : new ≡ record old { unread = new.unread; frame = new.frame }
  pub heard : (so_far : List ℕ) (ms : List Msg)
      → FramesStand old.unread so_far ms → old.frame ≡ length ms + 1
      → MoreMessages new.unread (so_far ++ bytes) ms count fault × (new.frame ≡ old.frame + count)

-- by the number of messages
abbrev pub heard_times : ℕ → ℕ → Stance → Stance
heard_times now count t =
    if count == 0 then record t { looked = now }
    else record t { looked = now; heard = now; phase = greeted_by t.phase }
