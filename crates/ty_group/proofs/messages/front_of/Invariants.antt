use Rattle.std.proofs.Common.{length, ◌-◌}
use Rattle.ty_group.specs.steps.Pieces.{told_in}
use Rattle.ty_group.proofs.Fronts.{IsGrowing}
use Rattle.ty_group.proofs.messages.front_of.Given as goal

abbrev pub invariant-loop-front : goal.invariant-loop-front
invariant-loop-front l = IsGrowing (told_in l.text l.marks) l.front.count l.front.len l.weight

abbrev pub decreases-loop-front : goal.decreases-loop-front
decreases-loop-front l = length l.marks - l.front.count
