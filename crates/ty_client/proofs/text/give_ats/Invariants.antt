use Rattle.std.proofs.Common.{drop, ◌≤◌}
use Rattle.ty_client.specs.Text.{rebuilt_text}
use Rattle.ty_client.specs.steps.Given.{Owes}
use Rattle.ty_client.proofs.text.give_ats.Given as goal

abbrev pub invariant-loop-at : goal.invariant-loop-at
invariant-loop-at g l = record {
  gives : Owes (g.K.Sink.seen l.fn.sink).held (g.K.Sink.seen l.sink).held (rebuilt_text l.brief (drop l.at-index l.ats)) (rebuilt_text l.brief l.ats);
  later : (g.K.Sink.seen l.fn.sink).faults ≤ (g.K.Sink.seen l.sink).faults;
}
