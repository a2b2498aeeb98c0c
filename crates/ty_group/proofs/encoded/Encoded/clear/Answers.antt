use Rattle.std.proofs.Common.{[]}
use Rattle.ty_group.proofs.Pieces.{none, encoded, told}
use Rattle.ty_group.proofs.encoded.Encoded.clear.Goals as goal

pub invariant_of-self : goal.invariant_of-self
invariant_of-self c = encoded c.clear.new.self.items c.clear-2.new.self.items [] (none c.clear.new.self.items c.clear-2.new.self.items c.clear.ensures.items c.clear-2.ensures.items)

pub returns : goal.returns
returns c = told c.clear.new.self.items c.clear-2.new.self.items [] (none c.clear.new.self.items c.clear-2.new.self.items c.clear.ensures.items c.clear-2.ensures.items)
