use Rattle.std.proofs.Common.{◌≡◌, take}
use Rattle.std.specs.List.{flat_map}
use Rattle.ty_keys.specs.steps.Bits.{bit_text}
use Rattle.ty_keys.proofs.text.joined.Given as goal

abbrev pub invariant-loop-bit : goal.invariant-loop-bit
invariant-loop-bit l = l.text.items ≡ flat_map bit_text (take l.bit-index l.bits)
