use Rattle.std.proofs.Common.{ap, arith}
use Rattle.std.proofs.lemmas.List.{drop_all, take_rest}
use Rattle.json.specs.Print.{escape}
use Rattle.ty_wire.proofs.Placed.{owes-part, owes-end}
use Rattle.ty_wire.proofs.quoted.place_escaped.Goals as goal

pub loop-from-preserved : goal.loop-from-preserved
loop-from-preserved c =
    let text = c.args.text.now in
    let from = c.loop-from.from in
    (omega arith, owes-part _ _ _ c.args.at c.loop-from.end from c.place_part-part.result.text _ text c.loop-from.invariant.1 (rw (take_rest text from) at c.place_part-part.ensures.placed))

pub returns : goal.returns
returns c = owes-end c.loop-from.invariant.1 (ap escape (drop_all c.loop-from.from c.args.text.now (omega arith)))
