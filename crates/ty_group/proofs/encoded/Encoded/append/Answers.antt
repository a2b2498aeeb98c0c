use Rattle.std.proofs.Common.{rules, List, ◌++◌, ap, ◌∙◌}
use Rattle.ty_base.specs.declared.delta.Delta.{Delta}
use Rattle.ty_group.specs.steps.Pieces.{told_in}
use Rattle.ty_group.proofs.Pieces.{appended, encoded, told}
use Rattle.ty_group.proofs.encoded.Encoded.append.Goals as goal

pub invariant_of-self-2 : goal.invariant_of-self-2
invariant_of-self-2 c =
    encoded c.extend_from_slice.new.self.items c.extend_from_slice-2.new.self.items _
    (appended c.self.inside.text.items c.others.inside.text.items _ c.self.inside.marks.items c.others.inside.marks.items _ (search rules) (search rules) c.self.invariant c.others.invariant)

pub returns-clause-ok : goal.returns-clause-ok
returns-clause-ok c =
    told c.extend_from_slice.new.self.items c.extend_from_slice-2.new.self.items _
    (appended c.self.inside.text.items c.others.inside.text.items _ c.self.inside.marks.items c.others.inside.marks.items _ (search rules) (search rules) c.self.invariant c.others.invariant)
    ∙ ap (λ (l : List Delta). l ++ told_in c.others.inside.text.items c.others.inside.marks.items) c.self.view_is
    ∙ ap (λ (l : List Delta). c.args.self.now ++ l) c.others.view_is
