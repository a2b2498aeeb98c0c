use Rattle.std.proofs.Common.{[]}
use Rattle.ty_group.proofs.Pieces.{none, encoded, told}
use Rattle.ty_group.proofs.encoded.Encoded.empty.Goals as goal

pub invariant_of-result : goal.invariant_of-result
invariant_of-result c = encoded c.new.result.items c.new-2.result.items [] (none c.new.result.items c.new-2.result.items c.new.ensures.items c.new-2.ensures.items)

pub returns : goal.returns
returns c = told c.new.result.items c.new-2.result.items [] (none c.new.result.items c.new-2.result.items c.new.ensures.items c.new-2.ensures.items)
