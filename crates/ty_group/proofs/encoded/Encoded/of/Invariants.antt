use Rattle.std.proofs.Common.{take}
use Rattle.ty_group.specs.steps.Pieces.{IsEncoding}
use Rattle.ty_group.proofs.encoded.Encoded.of.Given as goal

abbrev pub invariant-loop-delta : goal.invariant-loop-delta
invariant-loop-delta l = IsEncoding l.text.items l.marks.items (take l.delta-index l.delta-items)
