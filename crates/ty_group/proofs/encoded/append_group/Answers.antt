use Rattle.std.proofs.Common.{List, subst}
use Rattle.std.specs.List.{AllByRecursion}
use Rattle.ty_base.specs.declared.delta.Delta.{Delta}
use Rattle.ty_wire.specs.Wire.{IsWire}
use Rattle.ty_wire.specs.Talk.{group_messages as group}
use Rattle.ty_wire.proofs.Utf8.{group-wire}
use Rattle.ty_group.specs.steps.Pieces.{told_in}
use Rattle.ty_group.proofs.Fronts.{on_ok}
use Rattle.ty_group.proofs.encoded.append_group.Goals as goal

pub returns-clause-wire : goal.returns-clause-wire
returns-clause-wire c =
    let ds : List Delta = told_in c.encoded.inside.text.items c.encoded.inside.marks.items in
    let P : List Delta → Type 0 = λ l. AllByRecursion IsWire (group l c.args.status c.args.n) in
    let w : P c.args.encoded.now = subst P c.encoded.view_is (group-wire ds c.args.status c.args.n c.encoded.invariant.limits c.encoded.invariant.utf8 c.ranges.n.fits) in
    on_ok c.write_group-2.result (AllByRecursion IsWire (group c.args.encoded.now c.args.status c.args.n)) w
