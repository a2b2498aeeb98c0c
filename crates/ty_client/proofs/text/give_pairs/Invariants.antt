use Rattle.std.proofs.Common.{◌++◌, ◌≤◌}
use Rattle.ty_map.specs.Shape.{pairs}
use Rattle.ty_client.specs.Text.{pair_lines}
use Rattle.ty_client.specs.steps.Given.{Owes}
use Rattle.ty_client.proofs.text.give_pairs.Given as goal

abbrev pub invariant-loop-key : goal.invariant-loop-key
invariant-loop-key g l = record {
  gives : Owes (g.K.Sink.seen l.fn.sink).held (g.K.Sink.seen l.sink).held (l.out.items ++ pair_lines l.key-iterator) (l.fn.bytes.items ++ pair_lines (pairs l.pairs));
  later : (g.K.Sink.seen l.fn.sink).faults ≤ (g.K.Sink.seen l.sink).faults;
}
