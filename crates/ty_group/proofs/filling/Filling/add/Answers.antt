use Rattle.std.proofs.Common.{◌+◌, ◌∙◌, List, ap, sym, subst}
use Rattle.ty_base.specs.declared.delta.Delta.{Delta}
use Rattle.ty_wire.specs.Wire.{new_pair}
use Rattle.ty_group.specs.steps.Filled.{IsFilled, has_place}
use Rattle.ty_group.proofs.Filled.{added}
use Rattle.ty_group.proofs.filling.Filling.add.Goals as goal

pub invariant_of-self-2 : goal.invariant_of-self-2
invariant_of-self-2 c =
    let d : Delta = new_pair c.args.key.now c.args.value.now in
    let P : List Delta → Type 0 = λ l. IsFilled l (c.self.inside.weight + c.weight_of_pair.result) in
    subst P (sym c.in_ok-push_new.ensures.ok)
    (added c.self.inside.encoded d c.self.inside.weight c.weight_of_pair.result c.weight_of_pair.ensures c.requires.fits
    (ap (λ (l : List Delta). has_place l d) c.self.view_is ∙ c.requires.place) c.self.invariant)
