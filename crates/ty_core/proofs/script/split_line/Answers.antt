use Rattle.std.proofs.Common.{◌≡◌, suc, take, drop, arith, add-one}
use Rattle.std.proofs.lemmas.List.{take_rest}
use Rattle.ty_intake.specs.Lines.{cut_lines}
use Rattle.ty_intake.specs.steps.Progress.{line_then}
use Rattle.ty_intake.proofs.Lines.{cut-found, cut-all}
use Rattle.ty_core.proofs.script.split_line.Goals as goal

pub returns-in-Some-clause-line : goal.returns-in-Some-clause-line
returns-in-Some-clause-line c =
    let e : cut_lines c.args.bytes.now ≡ line_then (take c.in-Some.end c.args.bytes.now) (cut_lines (drop (suc c.in-Some.end) c.args.bytes.now)) =
    cut-found c.args.bytes.now c.in-Some.end c.in-Some.ensures.0.high c.in-Some.ensures.1 (λ i l. c.in-Some.ensures.0.before i (omega arith) l) in
    rw (add-one, take_rest) e

pub returns-in-None : goal.returns-in-None
returns-in-None c = record { line = tt; shorter = tt; rest = cut-all c.args.bytes.now (λ i l. c.in-None.ensures i (omega arith) l) }
