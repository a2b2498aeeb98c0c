-- What a client may say: a hello with version 1, and then pongs. The first message that it may not
-- say, or the wire's fault behind all messages, ends the connection.
use Rattle.std.specs.Prelude.{◌≡◌, ℕ, ◌+◌, ◌==◌, List, [], ◌∷◌, Option, None, Some, option_map, Bool, if◌then◌else◌}
use Rattle.std.specs.Option.{option_or}
use Rattle.ty_wire.specs.Stream.{Brings}
use Rattle.ty_wire.specs.declared.message.Msg.{Msg}
use Rattle.ty_wire.specs.declared.message.Msg.TheVariants.{ClientHello, ServerHello, Kvs, Status as StatusMsg, Crumb, Ping, Pong}
use Rattle.ty_wire.specs.declared.fault.WireFault.{WireFault}
use Rattle.ty_session.specs.declared.reason.Reason.{Reason}
use Rattle.ty_session.specs.declared.reason.Reason.TheVariants.{BadHello, BadBytes, BadOrder}

-- the versions that are spoken
abbrev pub is_spoken : ℕ → Bool
is_spoken version = version == 1

abbrev pub hello_fault : Msg → Option Reason
hello_fault (ClientHello version host) = if is_spoken version then None else Some (BadHello version)
hello_fault (ServerHello version) = Some (BadOrder 1)
hello_fault (Kvs ds) = Some (BadOrder 1)
hello_fault (StatusMsg s) = Some (BadOrder 1)
hello_fault (Crumb n) = Some (BadOrder 1)
hello_fault (Ping ts) = Some (BadOrder 1)
hello_fault (Pong ts) = Some (BadOrder 1)

-- frames count from 1
abbrev pub pong_fault : ℕ → Msg → Option Reason
pong_fault frame (Pong ts) = None
pong_fault frame (ClientHello version host) = Some (BadOrder frame)
pong_fault frame (ServerHello version) = Some (BadOrder frame)
pong_fault frame (Kvs ds) = Some (BadOrder frame)
pong_fault frame (StatusMsg s) = Some (BadOrder frame)
pong_fault frame (Crumb n) = Some (BadOrder frame)
pong_fault frame (Ping ts) = Some (BadOrder frame)

abbrev pub client_fault : ℕ → Msg → Option Reason
client_fault frame m = if frame == 1 then hello_fault m else pong_fault frame m

-- the first fault of messages, of which the first has this frame
unfoldable pub first_client_fault : ℕ → List Msg → Option Reason
first_client_fault frame [] = None
first_client_fault frame (m ∷ ms) = option_or (client_fault frame m) (first_client_fault (frame + 1) ms)

-- bytes show this reason, the leftmost: a message out of its place, or else the wire's fault behind
-- all messages
pub record Shows (bytes : List ℕ) (reason : Reason) : Type 0 where
  pub messages : List Msg
  pub wire : Option WireFault
  pub brings : Brings bytes messages wire
  pub first : Some reason ≡ option_or (first_client_fault 1 messages) (option_map BadBytes wire)
