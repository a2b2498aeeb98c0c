use Rattle.std.proofs.Common.{◌≤◌}
use Rattle.ty_dial.specs.Dialled.{dialler}
use Rattle.ty_dial.specs.steps.Turns.{LostWith}
use Rattle.ty_dial.proofs.dial.follow_door.Given as goal

abbrev pub invariant-loop : goal.invariant-loop
invariant-loop g l = record {
  can : (goal.iterator-loop g).can_next l.iterator';
  ends : (goal.iterator-loop g).is_finite l.iterator';
  lost : LostWith g.D.Link.Link.sight g.D.Link.Link.count l.host l.brief l.count l.last
      (dialler (g.D.Door.sight l.fn.dial) (g.D.Door.gave l.fn.dial) (g.D.Door.got l.fn.dial) (g.D.Door.count l.fn.dial) (g.K.Sink.seen l.fn.sink))
      (dialler (g.D.Door.sight l.dial) (g.D.Door.gave l.dial) (g.D.Door.got l.dial) (g.D.Door.count l.dial) (g.K.Sink.seen l.sink));
  few : l.count ≤ l.tries;
}
