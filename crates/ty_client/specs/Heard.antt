-- What the bytes of a connection come to, and what a client holds after several connections.
use Rattle.std.specs.Prelude.{◌≡◌, ℕ, List, [], ◌∷◌, ◌++◌, Option, None, option_map}
use Rattle.std.specs.Option.{option_or}
use Rattle.ty_wire.specs.Stream.{Brings}
use Rattle.ty_wire.specs.declared.message.Msg.{Msg}
use Rattle.ty_wire.specs.declared.fault.WireFault.{WireFault}
use Rattle.ty_client.specs.declared.fault.StreamFault.{StreamFault}
use Rattle.ty_client.specs.declared.fault.StreamFault.TheVariants.{Wire}
use Rattle.ty_client.specs.Places.{judged}
use Rattle.ty_client.specs.Rebuilt.{Rebuilt, ats, last_held}

-- the messages before the first fault of the bytes, and that fault: a message out of its place, or
-- else the wire's, which comes behind all messages. A front of the bytes shows it, and what comes
-- behind changes nothing
pub record Hears (bytes : List ℕ) (ms : List Msg) (fault : Option StreamFault) : Type 0 where
  pub front : List ℕ
  pub rest : List ℕ
  pub whole : bytes ≡ front ++ rest
  pub stops : fault ≡ None → rest ≡ []
  pub all : List Msg
  pub wire : Option WireFault
  pub brings : Brings front all wire
  pub good : ms ≡ (judged all).good
  pub first : fault ≡ option_or (judged all).fault (option_map Wire wire)

-- a connection with crumb ends leaves what it rebuilt at its last one, and another leaves what was
-- held before
abbrev pub HoldsAfter : Option Rebuilt → List (List ℕ) → Option Rebuilt → Type 0
HoldsAfter before [] held = held ≡ before
HoldsAfter before (bytes ∷ more) held =
    (ms : List Msg) × (fault : Option StreamFault) × Hears bytes ms fault × HoldsAfter (last_held before (ats ms)) more held

-- what a client holds after these connections, each by its bytes
abbrev pub Holds : List (List ℕ) → Option Rebuilt → Type 0
Holds connections held = HoldsAfter None connections held
