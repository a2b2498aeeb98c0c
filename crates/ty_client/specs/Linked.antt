-- What following a link comes to.
use Rattle.std.specs.Prelude.{◌≡◌, ◌<◌, ℕ, true, List, [], ◌∷◌, ◌++◌, Option, None, Some, Bool, length}
use Rattle.std.specs.Io.KnownBytes.{Appends}
use Rattle.ty_base.specs.Causes.{Rose}
use Rattle.ty_base.specs.Devices.{Output}
use Rattle.ty_base.specs.Fronts.{AppendsFront}
use Rattle.ty_base.specs.Links.{Sight, IsOver}
use Rattle.ty_base.specs.Told.{Told}
use Rattle.ty_wire.specs.Wire.{frames}
use Rattle.ty_wire.specs.Stream.{Reads}
use Rattle.ty_wire.specs.declared.message.Msg.{Msg}
use Rattle.ty_wire.specs.declared.message.Msg.TheVariants.{ClientHello}
use Rattle.ty_client.specs.declared.fault.StreamFault.{StreamFault}
use Rattle.ty_client.specs.declared.follower.FollowFault.{FollowFault}
use Rattle.ty_client.specs.declared.follower.FollowFault.TheVariants.{Stream, Cut, Read, Write, Link, NoMemory}
use Rattle.ty_client.specs.Rebuilt.{ats, pongs}
use Rattle.ty_client.specs.Heard.{Hears, Holds}
use Rattle.ty_client.specs.Rebuild.{RebuildHeld, RebuildStands}
use Rattle.ty_client.specs.Text.{rebuilt_text}

-- what is seen of a rebuilding, of its link, which tells something or not and has failed so often,
-- and of a sink
pub record Scene : Type 0 where
  pub rebuild : RebuildHeld
  pub sight : Option Sight
  pub faults : ℕ
  pub sink : Output

abbrev pub scene : RebuildHeld → Option Sight → ℕ → Output → Scene
scene rebuild sight faults sink = record { rebuild = rebuild; sight = sight; faults = faults; sink = sink }

-- what a client says: its hello, and a pong for each ping of these messages
abbrev pub client_talk : List ℕ → List Msg → List ℕ
client_talk host ms = frames (ClientHello 1 host ∷ pongs ms)

-- From what a link told before a call to what it tells afterwards

abbrev pub IsBrought : List ℕ → Sight → Sight → Type 0
IsBrought bytes x y = y.brought ≡ x.brought ++ bytes

-- it was given all these bytes
abbrev pub IsGivenAll : List ℕ → Sight → Sight → Type 0
IsGivenAll bytes x y = y.given ≡ x.given ++ bytes

-- it was given the first of these bytes
abbrev pub IsGivenFront : List ℕ → Sight → Sight → Type 0
IsGivenFront bytes x y = (front : List ℕ) × (rest : List ℕ) × (bytes ≡ front ++ rest) × IsGivenAll front x y

-- its end was taken, behind which nothing comes
abbrev pub EndIsTaken : Sight → Sight → Type 0
EndIsTaken x y = (y.ended ≡ true) × IsOver y.coming

-- its end wasn't taken
abbrev pub EndIsAsBefore : Sight → Sight → Type 0
EndIsAsBefore x y = y.ended ≡ x.ended

-- the link brought bytes, they have these good messages and this fault, the rebuilding stands for
-- its connections before and for this one, the first bytes of what a client says to these messages
-- were given, and the text of all that they rebuild was written
pub record Linked (host : List ℕ) (brief : Bool) (old new : Scene) (fault : Option StreamFault) : Type 0 where
  pub bytes : List ℕ
  pub ms : List Msg
  pub brought : Told (IsBrought bytes) old.sight new.sight
  pub given : Told (IsGivenFront (client_talk host ms)) old.sight new.sight
  pub hears : Hears bytes ms fault
  pub stands : (connections : List (List ℕ)) → Holds connections old.rebuild.held → RebuildStands new.rebuild connections bytes ms
  pub written : Appends old.sink.held new.sink.held (rebuilt_text brief (ats ms))

-- some of the bytes weren't heard, what is held is what the others leave, and a front of their text
-- was written
pub record LinkedPart (host : List ℕ) (brief : Bool) (old new : Scene) : Type 0 where
  pub bytes : List ℕ
  pub unheard : List ℕ
  pub ms : List Msg
  pub fault : Option StreamFault
  pub brought : Told (IsBrought (bytes ++ unheard)) old.sight new.sight
  pub given : Told (IsGivenFront (client_talk host ms)) old.sight new.sight
  pub unended : Told EndIsAsBefore old.sight new.sight
  pub hears : Hears bytes ms fault
  pub holds : (connections : List (List ℕ)) → Holds connections old.rebuild.held → Holds (connections ++ bytes ∷ []) new.rebuild.held
  pub written : AppendsFront old.sink.held new.sink.held (rebuilt_text brief (ats ms))

-- the link's end was taken behind this rest of its bytes, and all that a client says was given
pub record LinkEnded (host : List ℕ) (brief : Bool) (old new : Scene) (rest : List ℕ) : Type 0 where
  pub linked : Linked host brief old new None
  pub ended : Told EndIsTaken old.sight new.sight
  pub given_all : Told (IsGivenAll (client_talk host linked.ms)) old.sight new.sight
  pub reads : Reads linked.bytes linked.ms rest

-- why it went no further
abbrev pub LinkStopped : List ℕ → Bool → Scene → Scene → FollowFault → Type 0
LinkStopped host brief old new (Stream f) = Linked host brief old new (Some f) × Told EndIsAsBefore old.sight new.sight
LinkStopped host brief old new (Cut left) = (rest : List ℕ) × LinkEnded host brief old new rest × (0 < left) × (left ≡ length rest)
LinkStopped host brief old new Read = ⊥
LinkStopped host brief old new Write = ((part : LinkedPart host brief old new) × (part.unheard ≡ [])) × Rose old.sink.faults new.sink.faults
LinkStopped host brief old new Link = Linked host brief old new None × Told EndIsAsBefore old.sight new.sight × Rose old.faults new.faults
LinkStopped host brief old new NoMemory = LinkedPart host brief old new
