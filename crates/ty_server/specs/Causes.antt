-- Why a call ends a connection.
use Rattle.std.specs.Prelude.{◌≡◌, ◌⊎◌, ℕ, true, List, [], ◌++◌, None}
use Rattle.ty_base.specs.Causes.{Rose}
use Rattle.ty_base.specs.Drops.{is_unhello, is_silent, is_slow}
use Rattle.ty_wire.specs.Stream.{Brings}
use Rattle.ty_session.specs.Client.{Shows}
use Rattle.ty_session.specs.Story.{Story}
use Rattle.ty_session.specs.declared.reason.Reason.{Reason}
use Rattle.ty_session.specs.declared.reason.Reason.TheVariants.{NoHello, BadHello, BadBytes, BadOrder, NoPong, TooSlow, PeerClosed, LinkFault, Finished}
use Rattle.ty_server.specs.Exchanges.{LinkSeen, EndTaken}

-- at the time `now` of a call, over the story before it and what the client said in it; `offered` says which breadcrumb was offered, by
-- the time when it was made, and `finished` when all is said
module _ (now : ℕ) (s : Story) (heard : List ℕ) (a b : LinkSeen) (offered : ℕ → Type 0) (finished : Type 0) where
  abbrev pub IsCause : Reason → Type 0
  IsCause (NoHello opened at) =
      (at ≡ now) × (opened ≡ s.stance.opened) × (is_unhello opened now ≡ true) × Brings (s.bytes ++ heard) [] None
  IsCause (BadHello version) = Shows (s.bytes ++ heard) (BadHello version)
  IsCause (BadBytes fault) = Shows (s.bytes ++ heard) (BadBytes fault)
  IsCause (BadOrder frame) = Shows (s.bytes ++ heard) (BadOrder frame)
  IsCause (NoPong last at) =
      (at ≡ now) × ((last ≡ s.stance.heard) ⊎ (last ≡ now)) × (is_silent last now ≡ true)
  IsCause (TooSlow made at) = (at ≡ now) × offered made × (is_slow made s.stance.joined now ≡ true)
  IsCause PeerClosed = EndTaken a b
  IsCause LinkFault = Rose a.faults b.faults
  IsCause Finished = finished
