use Rattle.std.proofs.Common.{◌≡◌, drop}
use Rattle.ty_base.specs.Memory.{end_of}
use Rattle.ty_base.proofs.memory.piece_end.Given as goal

abbrev pub invariant-loop-end : goal.invariant-loop-end
invariant-loop-end l = end_of (drop l.end-index l.ends) l.at l.len ≡ end_of l.ends l.at l.len
