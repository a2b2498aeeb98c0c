use Rattle.std.proofs.Common.{◌∙◌, sym}
use Rattle.ty_wire.specs.Wire.{new_pair}
use Rattle.ty_group.proofs.Filled.{made_place}
use Rattle.ty_group.proofs.filling.Filling.make_place.Goals as goal

pub returns-clause-ok : goal.returns-clause-ok
returns-clause-ok c =
    made_place c.args.self.now (new_pair c.args.key.now c.args.value.now) c.send.new.self c.args.out.now.items c.send.new.out.items c.send.ensures.empty
    (λ rest. c.in_ok-send.ensures.begins (new_pair c.args.key.now c.args.value.now) rest (sym c.has_place.ensures ∙ c.if-has_place.false))
