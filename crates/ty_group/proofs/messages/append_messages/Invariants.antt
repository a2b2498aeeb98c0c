use Rattle.std.proofs.Common.{length}
use Rattle.ty_group.specs.steps.Pieces.{told_in, AreEncoded}
use Rattle.ty_group.specs.Written.{IsWritten, Keeps}
use Rattle.ty_group.proofs.messages.append_messages.Given as goal

abbrev pub invariant-loop-rest : goal.invariant-loop-rest
invariant-loop-rest l = record {
  encoded : AreEncoded l.rest l.left;
  written : IsWritten (told_in l.fn.text l.fn.marks) (told_in l.rest l.left) l.fn.out.items l.out.items;
  kept : Keeps l.fn.out.items l.out.items;
}

abbrev pub decreases-loop-rest : goal.decreases-loop-rest
decreases-loop-rest l = length l.left
