use Rattle.std.proofs.Common.{◌≡◌, ◌+◌, arith, length, drop, drop-drop, ap}
use Rattle.std.proofs.lemmas.List.{drop_all, take_rest}
use Rattle.json.specs.Print.{escape}
use Rattle.ty_wire.proofs.Parts.{escape-len}
use Rattle.ty_wire.proofs.quoted.escaped_len.Goals as goal

pub overflow_add-len : goal.overflow_add-len
overflow_add-len c = omega (arith, escape-len c.args.text.now, c.loop-from.invariant.1, c.escaped_part-part.ensures.short, c.requires)

pub loop-from-preserved : goal.loop-from-preserved
loop-from-preserved c =
    let text = c.args.text.now in
    let from = c.loop-from.from in
    let part = c.escaped_part-part in
    let split : length (escape (drop from text)) ≡ part.result.escaped + length (escape (drop part.result.text (drop from text))) = rw (take_rest text from) at part.ensures.len in
    (omega arith, omega (arith, c.loop-from.invariant.1, split, ap (λ l. length (escape l)) (drop-drop part.result.text from text)))

pub returns-clause-value : goal.returns-clause-value
returns-clause-value c = omega (arith, c.loop-from.invariant.1, ap (λ l. length (escape l)) (drop_all c.loop-from.from c.args.text.now (omega arith)))

pub returns-clause-bound : goal.returns-clause-bound
returns-clause-bound c = omega (arith, escape-len c.args.text.now, c.loop-from.invariant.1)
