use Rattle.ty_wire.specs.Wire.{new_pair}
use Rattle.ty_group.proofs.Filled.{taken_on}
use Rattle.ty_group.proofs.filling.Filling.push.Goals as goal

pub returns-clause-ok : goal.returns-clause-ok
returns-clause-ok c = λ rest.
    taken_on c.make_place.new.self (new_pair c.args.key.now c.args.value.now) rest c.args.self.now c.add.new.self c.args.out.now.items c.make_place.new.out.items c.in_ok-add.ensures.ok (c.in_ok-make_place.ensures.ok rest)
