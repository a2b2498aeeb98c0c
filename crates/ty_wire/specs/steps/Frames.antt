-- For private clauses: one frame, and the frames of one piece.
use Rattle.std.specs.Prelude.{◌≡◌, ℕ, ◌+◌, ◌≤◌, List, [], ◌++◌, length, drop, Option, None, Some, OnSome, Bool, true, false}
use Rattle.std.specs.List.{AllByRecursion}
use Rattle.ty_wire.specs.Wire.{frame, frames, IsWire}
use Rattle.ty_wire.specs.Stream.{IsPart, IsBad, FramesOpen, FramesStandBy}
use Rattle.ty_wire.specs.declared.frame.TheConstants.{HEAD_BYTES}
use Rattle.ty_wire.specs.declared.message.Msg.{Msg}
use Rattle.ty_wire.specs.declared.fault.WireFault.{WireFault}
use Rattle.ty_wire.specs.declared.fault.WireFault.TheVariants.{TooMuch}
use Rattle.ty_wire.specs.declared.frame.Next.{Next}
use Rattle.ty_wire.specs.declared.frame.Next.TheVariants.{Part, Message, Fault}
use Rattle.ty_wire.specs.declared.frame.Found.{Found}
use Rattle.ty_wire.specs.declared.partial_frame.Moved.{Moved}
use Rattle.ty_wire.specs.Held.{FramesHeld}

pub record IsFirst (bytes : List ℕ) (m : Msg) (len : ℕ) : Type 0 where
  pub wire : IsWire m
  pub some : HEAD_BYTES ≤ len
  pub within : len ≤ length bytes
  pub same : bytes ≡ frame m ++ drop len bytes

abbrev pub IsNext : ℕ → List ℕ → Next → Type 0
IsNext k bytes Part = IsPart bytes
IsNext k bytes (Message m len) = IsFirst bytes m len
IsNext k bytes (Fault w) = IsBad k bytes w

-- how it ends behind the messages
abbrev pub EndsWith : Option WireFault → ℕ → List ℕ → Type 0
EndsWith None k rest = IsPart rest
EndsWith (Some w) k rest = IsBad k rest w

-- the frames of these messages and then the bytes, where k frames came before them all
pub record IsFound (k : ℕ) (before : List Msg) (bytes : List ℕ) (f : Found) : Type 0 where
  pub each : AllByRecursion IsWire f.msgs
  pub within : f.used ≤ length bytes
  pub counted : length f.msgs ≤ length before + f.used
  pub same : frames before ++ bytes ≡ frames f.msgs ++ drop f.used bytes
  pub ends : EndsWith f.fault (k + length f.msgs + 1) (drop f.used bytes)

-- what bytes become, and what is kept of them
pub record IsMoved (k : ℕ) (bytes kept : List ℕ) (m : Moved) : Type 0 where
  pub rest : List ℕ
  pub each : AllByRecursion IsWire m.msgs
  pub same : bytes ≡ frames m.msgs ++ rest
  pub ends : EndsWith m.fault (k + length m.msgs + 1) rest
  pub left : m.fault ≡ None → kept ≡ rest
  pub gone : OnSome m.fault (kept ≡ [])
  pub part : IsPart kept
  pub counted : length m.msgs + length kept ≤ length bytes

pub record IsTaken (old new : FramesHeld) (front : List ℕ) (ms : List Msg) : Type 0 where
  pub rest : List ℕ
  pub each : AllByRecursion IsWire ms
  pub same : old.rest ++ front ≡ frames ms ++ rest
  pub ends : EndsWith new.fault (old.count + length ms + 1) rest
  pub left : new.fault ≡ None → new.rest ≡ rest
  pub count : new.count ≡ old.count + length ms
  pub seen : new.seen ≡ old.seen + length front
  pub spent : new.spent ≡ old.spent

abbrev pub ended_by : Bool → Option WireFault → Option WireFault
ended_by over (Some w) = Some w
ended_by true None = Some TooMuch
ended_by false None = None

abbrev pub IsFed : FramesHeld → FramesHeld → List ℕ → List Msg → Type 0
IsFed old new piece new_ms = (new.spent ≡ old.spent) × ((bytes : List ℕ) (ms : List Msg) → FramesOpen old bytes ms → FramesStandBy new.fault new (bytes ++ piece) (ms ++ new_ms))
