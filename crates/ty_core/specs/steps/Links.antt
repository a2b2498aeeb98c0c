-- What a connection's calls bring.
use Rattle.std.specs.Prelude.{◌≡◌, ℕ, ◌<◌, List, [], ◌++◌, length, map, take, false, Option, None}
use Rattle.std.specs.List.{filter_map}
use Rattle.ty_base.specs.declared.entry.Entry.{Entry}
use Rattle.ty_base.specs.declared.limits.TheConstants.{INPUT_BYTES}
use Rattle.ty_wire.specs.Wire.{frames}
use Rattle.ty_wire.specs.declared.message.Msg.{Msg}
use Rattle.ty_client.specs.Places.{told_number}
use Rattle.ty_client.specs.Rebuilt.{Rebuilt, pongs}
use Rattle.ty_client.specs.Rebuild.{RebuildHeld, RebuildStands}
use Rattle.ty_client.specs.Worlds.{rebuilt_after}
use Rattle.ty_client.specs.declared.fault.StreamFault.{StreamFault}
use Rattle.ty_session.specs.Story.{heard_more}
use Rattle.ty_session.specs.Held.{SessionHeld, SessionStands}
use Rattle.ty_core.specs.declared.client.Connection.{Connection}
use Rattle.ty_core.specs.Clients.{down, delivered, sent, unheard, get_link, numbers_came}
use Rattle.ty_core.specs.Links.{story_of, IsConnection, IsLink}

-- A piece that was delivered

-- the client stands for the longer bytes without a fault, what was rebuilt is the worlds of the crumb ends that came, and a
-- pong is queued for each ping that came
pub record IsPieceDelivered (new old : RebuildHeld) (before : List (List ℕ)) (bytes : List ℕ) (messages : List Msg) (entries : List Entry) (came : List Msg) (at_ends : List Rebuilt) : Type 0 where
  pub stands : RebuildStands new before bytes messages
  pub no_fault : new.fault ≡ None
  pub at_ends_are : at_ends ≡ map (rebuilt_after entries) (filter_map told_number came)
  pub up : new.up ≡ old.up ++ frames (pongs came)

-- so many bytes were delivered
pub record IsDelivered (rebuild : RebuildHeld) (session : SessionHeld) (es : List Entry) (k : Connection) (before : List (List ℕ)) (n : ℕ) (at_ends : List Rebuilt) (fault : Option StreamFault) : Type 0 where
  pub link : IsLink rebuild session es (get_link es n k) before
  pub no_fault : fault ≡ None
  pub at_ends_are : at_ends ≡ map (rebuilt_after es) (numbers_came es k n)

-- all that was on its way up was heard, and the session has to join where it wasn't
pub record AllIsHeard (rebuild : RebuildHeld) (session : SessionHeld) (es : List Entry) (now : ℕ) (k : Connection) (before : List (List ℕ)) (count : ℕ) : Type 0 where
  pub connection : IsConnection es k
  pub looked : ℕ
  pub count_is : count ≡ k.up
  pub short : length (frames (sent es k)) < INPUT_BYTES
  pub session_stands : SessionStands session (heard_more now (frames (unheard es k)) (unheard es k) (story_of es looked k))
  pub client_stands : RebuildStands rebuild before (take k.got (down es k)) (delivered es k)
  pub no_fault : rebuild.fault ≡ None
  pub up : rebuild.up ≡ []
  pub got_none : k.has_joined ≡ false → k.got ≡ 0
