use Rattle.std.proofs.Common.{◌≡◌, ◌∙◌, ◌<◌, ◌≤◌, ◌+◌, sym, subst, arith, rules, true, false}
use Rattle.std.specs.Prelude.{Err}
use Rattle.ty_dial.specs.Dialled.{Answer, Dialled, dialler, is_lost}
use Rattle.ty_dial.proofs.Dialling.{door_failed, lost_none, stopped, up_by_end, up_by_tries, with_more, with_none}
use Rattle.ty_dial.specs.declared.fault.DialFault.{DialFault}
use Rattle.ty_dial.proofs.dial.follow_door.Goals as goal

pub loop-init : goal.loop-init
loop-init g c =
    let D = g.D.Door in
    record {
      can = tt;
      ends = tt;
      lost = lost_none g.D.Link.Link.sight g.D.Link.Link.count c.args.host.now c.args.brief
          (dialler (D.sight c.args.dial.now) (D.gave c.args.dial.now) (D.got c.args.dial.now) (D.count c.args.dial.now) (g.K.Sink.seen c.args.sink.now));
      few = omega arith;
    }

pub returns-then-count-tries-clause-dialled : goal.returns-then-count-tries-clause-dialled
returns-then-count-tries-clause-dialled g c =
    let D = g.D.Door in
    let old = dialler (D.sight c.args.dial.now) (D.gave c.args.dial.now) (D.got c.args.dial.now) (D.count c.args.dial.now) (g.K.Sink.seen c.args.sink.now) in
    let mid = dialler (D.sight c.loop.dial) (D.gave c.loop.dial) (D.got c.loop.dial) (D.count c.loop.dial) (g.K.Sink.seen c.loop.sink) in
    let none_left : c.loop.count ≡ c.args.tries = search rules in
    up_by_tries g.D.Link.Link.sight g.D.Link.Link.count c.args.host.now c.args.brief c.args.tries c.loop.count c.loop.last old mid c.loop.invariant.lost none_left

pub returns-then-not-is_lost-clause-dialled : goal.returns-then-not-is_lost-clause-dialled
returns-then-not-is_lost-clause-dialled g c =
    let D = g.D.Door in
    let old = dialler (D.sight c.args.dial.now) (D.gave c.args.dial.now) (D.got c.args.dial.now) (D.count c.args.dial.now) (g.K.Sink.seen c.args.sink.now) in
    let mid = dialler (D.sight c.loop.dial) (D.gave c.loop.dial) (D.got c.loop.dial) (D.count c.loop.dial) (g.K.Sink.seen c.loop.sink) in
    let new = dialler (D.sight c.dial_next.new.dial) (D.gave c.dial_next.new.dial) (D.got c.dial_next.new.dial) (D.count c.dial_next.new.dial) (g.K.Sink.seen c.dial_next.new.sink) in
    let few : c.loop.count < c.args.tries = grind arith in
    let came = rw c.in-Ok-Followed.field-0-is at c.in-Ok-Followed.ensures.came in
    let kept : is_lost c.in-Ok-Followed.answer ≡ false = sym c.is_lost.ensures ∙ search rules in
    stopped g.D.Link.Link.sight g.D.Link.Link.count c.args.host.now c.args.brief c.args.tries c.loop.count c.loop.last c.in-Ok-Followed.answer old mid new
    c.loop.invariant.lost came kept few

pub loop-preserved-in-Ok-Followed : goal.loop-preserved-in-Ok-Followed
loop-preserved-in-Ok-Followed g c =
    let D = g.D.Door in
    let old = dialler (D.sight c.args.dial.now) (D.gave c.args.dial.now) (D.got c.args.dial.now) (D.count c.args.dial.now) (g.K.Sink.seen c.args.sink.now) in
    let mid = dialler (D.sight c.loop.dial) (D.gave c.loop.dial) (D.got c.loop.dial) (D.count c.loop.dial) (g.K.Sink.seen c.loop.sink) in
    let new = dialler (D.sight c.dial_next.new.dial) (D.gave c.dial_next.new.dial) (D.got c.dial_next.new.dial) (D.count c.dial_next.new.dial) (g.K.Sink.seen c.dial_next.new.sink) in
    let came = rw c.in-Ok-Followed.field-0-is at c.in-Ok-Followed.ensures.came in
    let lost : is_lost c.in-Ok-Followed.answer ≡ true = sym c.is_lost.ensures ∙ search rules in
    record {
      can = tt;
      ends = tt;
      lost = with_more g.D.Link.Link.sight g.D.Link.Link.count c.args.host.now c.args.brief c.loop.count c.loop.last c.in-Ok-Followed.answer old mid new
          c.loop.invariant.lost came lost c.in-Ok-Followed.ensures.faults;
      few = grind arith;
    }

pub returns-in-Ok-End-clause-dialled : goal.returns-in-Ok-End-clause-dialled
returns-in-Ok-End-clause-dialled g c =
    let D = g.D.Door in
    let old = dialler (D.sight c.args.dial.now) (D.gave c.args.dial.now) (D.got c.args.dial.now) (D.count c.args.dial.now) (g.K.Sink.seen c.args.sink.now) in
    let mid = dialler (D.sight c.loop.dial) (D.gave c.loop.dial) (D.got c.loop.dial) (D.count c.loop.dial) (g.K.Sink.seen c.loop.sink) in
    let new = dialler (D.sight c.dial_next.new.dial) (D.gave c.dial_next.new.dial) (D.got c.dial_next.new.dial) (D.count c.dial_next.new.dial) (g.K.Sink.seen c.dial_next.new.sink) in
    let came = rw c.in-Ok-End.field-0-is at c.in-Ok-End.ensures.came in
    up_by_end g.D.Link.Link.sight g.D.Link.Link.count c.args.host.now c.args.brief c.args.tries c.loop.count c.loop.last old mid new
    c.loop.invariant.lost came.0 c.in-Ok-End.ensures.faults came.1 c.loop.invariant.few

pub returns-in-Err-clause-dialled : goal.returns-in-Err-clause-dialled
returns-in-Err-clause-dialled g c =
    let D = g.D.Door in
    let old = dialler (D.sight c.args.dial.now) (D.gave c.args.dial.now) (D.got c.args.dial.now) (D.count c.args.dial.now) (g.K.Sink.seen c.args.sink.now) in
    let mid = dialler (D.sight c.loop.dial) (D.gave c.loop.dial) (D.got c.loop.dial) (D.count c.loop.dial) (g.K.Sink.seen c.loop.sink) in
    let new = dialler (D.sight c.dial_next.new.dial) (D.gave c.dial_next.new.dial) (D.got c.dial_next.new.dial) (D.count c.dial_next.new.dial) (g.K.Sink.seen c.dial_next.new.sink) in
    let came = c.in-Err.ensures.came in
    subst (λ (e : DialFault). Dialled g.D.Link.Link.sight g.D.Link.Link.count c.args.host.now c.args.brief c.args.tries old new (Err e)) (sym came.0)
    (door_failed g.D.Link.Link.sight g.D.Link.Link.count c.args.host.now c.args.brief c.args.tries c.loop.count c.loop.last old mid new
    c.loop.invariant.lost came.1 c.in-Err.ensures.faults came.2 c.loop.invariant.few)
