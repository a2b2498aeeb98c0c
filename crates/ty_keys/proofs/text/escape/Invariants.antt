use Rattle.std.proofs.Common.{◌≡◌, ◌++◌, take}
use Rattle.ty_keys.specs.Grammar.{escaped}
use Rattle.ty_keys.proofs.text.escape.Given as goal

abbrev pub invariant-loop-byte : goal.invariant-loop-byte
invariant-loop-byte l = l.text.items ≡ l.initial.text.items ++ escaped (take l.byte-index l.part)
