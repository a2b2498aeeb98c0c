use Rattle.std.proofs.Common.{sym, ◌∙◌, arith}
use Rattle.std.proofs.lemmas.Result.{err_from_is_err_and}
use Rattle.ty_keys.proofs.Units.{unit_ok, unit_err, part_empty, part_err, part_ok, nothing_left, pushed, all_pushed}
use Rattle.ty_keys.proofs.part.part.Goals as goal

pub returns-then-is_empty : goal.returns-then-is_empty
returns-then-is_empty c = λ _. part_empty c.args.written.at c.args.written.bytes.now (sym c.if-is_empty.ensures)

pub returns-in_err-byte : goal.returns-in_err-byte
returns-in_err-byte c =
    let p = err_from_is_err_and c.from_residual-in_err-byte.result c.from_residual-in_err-byte.ensures.1 in
    rw (p.1, p.2) (λ n. part_err c.args.written.at c.args.written.bytes.now _ (sym c.if-is_empty.ensures)
    (c.loop-rest.invariant.fault ∙ unit_err c.loop-rest.rest.at c.loop-rest.rest.bytes.now _ (sym c.loop-rest-test.ensures) (c.in_err-byte.ensures.unit n)))

pub loop-rest-preserved : goal.loop-rest-preserved
loop-rest-preserved c =
    let s = unit_ok c.loop-rest.rest.at c.loop-rest.rest.bytes.now _ _ c.in_ok-byte.ensures.unit in
    record {
      fault = c.loop-rest.invariant.fault ∙ s.fault;
      text =
          pushed _ _ _ _ _ _ _ _ c.loop-rest.invariant.text s.text c.in_ok-push.ensures.bytes
          (c.in_ok-push.ensures.ascii (omega (arith, c.in_ok-byte.ensures.ascii, c.from.ensures))) c.from.ensures;
    }

pub returns : goal.returns
returns c =
    let n = nothing_left c.loop-rest.rest.at c.loop-rest.rest.bytes.now (sym c.loop-rest-test.ensures) in
    part_ok c.args.written.at c.args.written.bytes.now _ (sym c.if-is_empty.ensures) (c.loop-rest.invariant.fault ∙ n.0)
    (all_pushed _ _ _ _ c.loop-rest.invariant.text n.1 c.from_string.ensures)
