-- What a `Frames` holds: the bytes of the unfinished frame, how many frames and bytes came, the
-- fault, and whether memory ran out.
use Rattle.std.specs.Prelude.{ℕ, List, Option, Bool}
use Rattle.ty_wire.specs.declared.fault.WireFault.{WireFault}

pub record FramesHeld : Type 0 where
  pub rest : List ℕ
  pub count : ℕ
  pub seen : ℕ
  pub fault : Option WireFault
  pub spent : Bool
