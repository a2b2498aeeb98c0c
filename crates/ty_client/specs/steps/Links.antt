-- For private clauses: a link that is followed, as far as it has come.
use Rattle.std.specs.Prelude.{◌≡◌, ◌≤◌, ◌++◌, ℕ, List, [], Option, None, Some, Bool, Result, Ok, Err, IfOk, IfErr}
use Rattle.std.specs.Io.KnownBytes.{Appends}
use Rattle.ty_base.specs.Devices.{Output}
use Rattle.ty_base.specs.Links.{Sight}
use Rattle.ty_base.specs.Told.{Told}
use Rattle.ty_wire.specs.declared.message.Msg.{Msg}
use Rattle.ty_client.specs.declared.fault.StreamFault.{StreamFault}
use Rattle.ty_client.specs.declared.follower.FollowFault.{FollowFault}
use Rattle.ty_client.specs.declared.follower.FollowFault.TheVariants.{Stream}
use Rattle.ty_client.specs.declared.connection.Taken.{Taken}
use Rattle.ty_client.specs.declared.connection.Taken.TheVariants.{More, Last}
use Rattle.ty_client.specs.Rebuilt.{ats, last_held}
use Rattle.ty_client.specs.Rebuild.{RebuildHeld, ConnectionStands}
use Rattle.ty_client.specs.Text.{rebuilt_text}
use Rattle.ty_client.specs.Linked.{Scene, scene, client_talk, IsBrought, IsGivenAll, EndIsAsBefore, LinkEnded, LinkStopped}

-- how a connection began
pub record Opening : Type 0 where
  pub host : List ℕ
  pub brief : Bool
  pub old : Scene

abbrev pub opened_with : List ℕ → Bool → Scene → Opening
opened_with host brief old = record { host = host; brief = brief; old = old }

-- a link was given bytes and brought bytes, and its end wasn't taken
pub record ExchangesUnended (sent heard : List ℕ) (x y : Sight) : Type 0 where
  pub gave : IsGivenAll sent x y
  pub came : IsBrought heard x y
  pub unended : EndIsAsBefore x y

-- bytes were brought and heard, and what was given and is queued is all that a client says to them
pub record HasReached (o : Opening) (now : Scene) : Type 0 where
  pub bytes : List ℕ
  pub ms : List Msg
  pub sent : List ℕ
  pub exchanged : Told (ExchangesUnended sent bytes) o.old.sight now.sight
  pub queued : sent ++ now.rebuild.up ≡ client_talk o.host ms
  pub stands : ConnectionStands now.rebuild bytes ms
  pub held : now.rebuild.held ≡ last_held o.old.rebuild.held (ats ms)
  pub link_later : o.old.faults ≤ now.faults
  pub sink_later : o.old.sink.faults ≤ now.sink.faults

-- and they have no fault, and their text was written
pub record Goes (o : Opening) (now : Scene) : Type 0 where
  pub reached : HasReached o now
  pub no_fault : now.rebuild.fault ≡ None
  pub written : Appends o.old.sink.held now.sink.held (rebuilt_text o.brief (ats reached.ms))

-- what an answer says of a connection
pub record LinkCameTo {A : Type 0} (o : Opening) (now : Scene) (Good : A → Type 0) (result : Result A FollowFault) : Type 0 where
  pub ok : IfOk result Good
  pub stopped : IfErr result (LinkStopped o.host o.brief o.old now)
  pub link_later : o.old.faults ≤ now.faults
  pub sink_later : o.old.sink.faults ≤ now.sink.faults

-- a connection that went until then goes on, or is over
abbrev pub GoesOnOrStops : Bool → Scene → Scene → Result (Unit {0}) FollowFault → Type 0
GoesOnOrStops brief then_ now result = (host : List ℕ) (old : Scene) → Goes (opened_with host brief old) then_
    → LinkCameTo (opened_with host brief old) now (λ _. Goes (opened_with host brief old) now) result

-- it goes on behind a take, or the link's end was taken outside a frame
abbrev pub ByTaken : Opening → Scene → Taken → Type 0
ByTaken o now More = Goes o now
ByTaken o now Last = LinkEnded o.host o.brief o.old now []

abbrev pub TakesOn : Bool → Scene → Scene → Result Taken FollowFault → Type 0
TakesOn brief then_ now result = (host : List ℕ) (old : Scene) → Goes (opened_with host brief old) then_
    → LinkCameTo (opened_with host brief old) now (ByTaken (opened_with host brief old) now) result

-- nothing has come yet, and the hello is queued
abbrev pub Begins : List ℕ → RebuildHeld → RebuildHeld → Result (Unit {0}) FollowFault → Type 0
Begins host r s result = (brief : Bool) (sight : Option Sight) (faults : ℕ) (sink : Output)
    → LinkCameTo (opened_with host brief (scene r sight faults sink)) (scene s sight faults sink)
    (λ _. Goes (opened_with host brief (scene r sight faults sink)) (scene s sight faults sink)) result

-- the fault that bytes have, if any
abbrev pub by_fault : Option StreamFault → Result (Unit {0}) FollowFault
by_fault None = Ok tt
by_fault (Some f) = Err (Stream f)
