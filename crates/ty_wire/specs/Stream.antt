-- The bytes of a connection: frames of messages, and then a rest that is no whole frame, or a
-- fault.
use Rattle.std.specs.Prelude.{◌≡◌, ℕ, ◌+◌, ◌-◌, ◌<◌, ◌≤◌, ◌⊎◌, List, ◌++◌, length, take, drop, Option, None, Some, false}
use Rattle.std.specs.List.{AllByRecursion}
use Rattle.std.specs.Int.{from_be_bytes, w32}
use Rattle.ty_base.specs.declared.limits.TheConstants.{BODY_BYTES, INPUT_BYTES}
use Rattle.ty_wire.specs.declared.frame.TheConstants.{HEAD_BYTES}
use Rattle.ty_wire.specs.Wire.{frames, IsWire, IsJson, Spells}
use Rattle.ty_wire.specs.declared.message.Msg.{Msg}
use Rattle.ty_wire.specs.declared.fault.WireFault.{WireFault}
use Rattle.ty_wire.specs.declared.fault.WireFault.TheVariants.{TooLong, NotJson, Shape, TooMuch}
use Rattle.ty_wire.specs.Held.{FramesHeld}

-- the length that four bytes tell, and the body behind them
abbrev pub told_len : List ℕ → ℕ
told_len rest = from_be_bytes w32 (take HEAD_BYTES rest)

abbrev pub body_at : List ℕ → List ℕ
body_at rest = take (told_len rest) (drop HEAD_BYTES rest)

-- no whole frame, and the beginning of one
abbrev pub IsPart : List ℕ → Type 0
IsPart rest = (length rest < HEAD_BYTES) ⊎ ((told_len rest ≤ BODY_BYTES) × (length rest < HEAD_BYTES + told_len rest))

-- the bytes are these messages' frames and a rest
pub record Reads (bytes : List ℕ) (ms : List Msg) (rest : List ℕ) : Type 0 where
  pub whole : bytes ≡ frames ms ++ rest
  pub each : AllByRecursion IsWire ms
  pub part : IsPart rest

-- a whole frame within the limit
pub record HasBody (rest : List ℕ) : Type 0 where
  pub head : HEAD_BYTES ≤ length rest
  pub short : told_len rest ≤ BODY_BYTES
  pub whole : HEAD_BYTES + told_len rest ≤ length rest

-- no message's frame stands where the k-th frame begins, and why
abbrev pub IsBad : ℕ → List ℕ → WireFault → Type 0
IsBad k rest (TooLong n len) = (n ≡ k) × (len ≡ told_len rest) × (HEAD_BYTES ≤ length rest) × (BODY_BYTES < told_len rest)
IsBad k rest (NotJson n) = (n ≡ k) × HasBody rest × (¬ (IsJson (body_at rest)))
IsBad k rest (Shape n) = (n ≡ k) × HasBody rest × IsJson (body_at rest) × ((m : Msg) → ¬ (Spells (body_at rest) m))
IsBad k rest TooMuch = ⊥

-- the bytes are these messages' frames, and then a bad one
pub record Breaks (bytes : List ℕ) (ms : List Msg) (fault : WireFault) : Type 0 where
  pub rest : List ℕ
  pub whole : bytes ≡ frames ms ++ rest
  pub each : AllByRecursion IsWire ms
  pub bad : IsBad (length ms + 1) rest fault

-- byte number 2^40 belongs to no frame
abbrev pub read_part : List ℕ → List ℕ
read_part bytes = take (INPUT_BYTES - 1) bytes

-- the first fault, and the messages before it
abbrev pub IsFault : List ℕ → List Msg → WireFault → Type 0
IsFault bytes ms TooMuch = (INPUT_BYTES ≤ length bytes) × ((rest : List ℕ) × Reads (read_part bytes) ms rest)
IsFault bytes ms fault = Breaks (read_part bytes) ms fault

-- what bytes bring: messages, and then a fault or none yet
abbrev pub Brings : List ℕ → List Msg → Option WireFault → Type 0
Brings bytes ms None = (length bytes < INPUT_BYTES) × ((rest : List ℕ) × Reads bytes ms rest)
Brings bytes ms (Some w) = IsFault bytes ms w

-- ---- what a `Frames` stands for

pub record FramesOpen (f : FramesHeld) (bytes : List ℕ) (ms : List Msg) : Type 0 where
  pub reads : Reads bytes ms f.rest
  pub count : f.count ≡ length ms
  pub seen : f.seen ≡ length bytes
  pub short : length bytes < INPUT_BYTES

abbrev pub FramesStandBy : Option WireFault → FramesHeld → List ℕ → List Msg → Type 0
FramesStandBy None f bytes ms = FramesOpen f bytes ms
FramesStandBy (Some w) f bytes ms = IsFault bytes ms w

-- these bytes so far, with these messages
abbrev pub FramesStand : FramesHeld → List ℕ → List Msg → Type 0
FramesStand f bytes ms = (f.spent ≡ false) × FramesStandBy f.fault f bytes ms
