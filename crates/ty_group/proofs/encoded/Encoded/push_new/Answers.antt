use Rattle.std.proofs.Common.{rules, ◌-◌, ◌∷◌, [], List, ◌++◌, ap, ◌∙◌}
use Rattle.ty_base.specs.declared.delta.Delta.{Delta}
use Rattle.ty_wire.specs.Wire.{new_pair}
use Rattle.ty_group.specs.steps.Pieces.{told_in}
use Rattle.ty_group.proofs.Pieces.{one_more, encoded, told}
use Rattle.ty_group.proofs.encoded.Encoded.push_new.Goals as goal

pub invariant_of-self-2 : goal.invariant_of-self-2
invariant_of-self-2 c =
    encoded c.append_new.new.out.items c.push.new.self.items _
    (one_more (told_in c.self.inside.text.items c.self.inside.marks.items) (new_pair c.args.key.now c.args.value.now) c.self.inside.text.items c.append_new.new.out.items c.self.inside.marks.items c.push.new.self.items
    (c.len.result - c.len-before.result) c.weight_of_pair.result c.requires c.append_new.ensures.utf8 c.in_ok-append_new.ensures.ok (search rules) c.weight_of_pair.ensures (search rules) c.self.invariant)

pub returns-clause-ok : goal.returns-clause-ok
returns-clause-ok c =
    told c.append_new.new.out.items c.push.new.self.items _
    (one_more (told_in c.self.inside.text.items c.self.inside.marks.items) (new_pair c.args.key.now c.args.value.now) c.self.inside.text.items c.append_new.new.out.items c.self.inside.marks.items c.push.new.self.items
    (c.len.result - c.len-before.result) c.weight_of_pair.result c.requires c.append_new.ensures.utf8 c.in_ok-append_new.ensures.ok (search rules) c.weight_of_pair.ensures (search rules) c.self.invariant)
    ∙ ap (λ (l : List Delta). l ++ new_pair c.args.key.now c.args.value.now ∷ []) c.self.view_is
