use Rattle.std.specs.Prelude.{Option, Ok, Err}
use Rattle.ty_base.specs.Links.{Sight, Takes}
use Rattle.ty_base.specs.Told.{Told}
use Rattle.ty_base.specs.declared.link.Took.TheVariants.{End}
use Rattle.ty_client.specs.steps.Links.{opened_with}
use Rattle.ty_client.proofs.Linked.{told_bytes, takes_quiet, takes_bytes, takes_end, takes_last, takes_cut, stops_first, link_fails}
use Rattle.ty_client.proofs.connection.take_piece.Goals as goal

pub returns-in-Ok-clause-came : goal.returns-in-Ok-clause-came
returns-in-Ok-clause-came g c = λ empty.
    let x : Option Sight = g.L.Link.sight c.args.link.now in
    let y : Option Sight = g.L.Link.sight c.take.new.self in
    let t = told_bytes c.in-Ok-Bytes.count c.take.new.buf x y (rw c.in-Ok-Bytes.field-0-is at c.in-Ok-Bytes.ensures.taken) in
    takes_bytes c.args.brief _ _ tt (c.in-Ok.ensures x y _ _ t c.in-Ok-Bytes.ensures.cause.later)

pub returns-in-Err-hear-clause-came : goal.returns-in-Err-hear-clause-came
returns-in-Err-hear-clause-came g c = λ empty.
    let x : Option Sight = g.L.Link.sight c.args.link.now in
    let y : Option Sight = g.L.Link.sight c.take.new.self in
    let t = told_bytes c.in-Ok-Bytes.count c.take.new.buf x y (rw c.in-Ok-Bytes.field-0-is at c.in-Ok-Bytes.ensures.taken) in
    stops_first c.args.brief _ _ c.in-Err-hear.fault (c.in-Err-hear.ensures x y _ _ t c.in-Ok-Bytes.ensures.cause.later)

pub returns-in-Ok-Quiet-clause-came : goal.returns-in-Ok-Quiet-clause-came
returns-in-Ok-Quiet-clause-came g c = λ empty.
    let x : Option Sight = g.L.Link.sight c.args.link.now in
    let y : Option Sight = g.L.Link.sight c.take.new.self in
    takes_quiet c.args.brief c.args.rebuild.now x y _ _ (g.K.Sink.seen c.args.sink.now) c.take.new.buf (rw c.in-Ok-Quiet.field-0-is at c.in-Ok-Quiet.ensures.taken) c.in-Ok-Quiet.ensures.cause.later

pub returns-in-Ok-ended-clause-came : goal.returns-in-Ok-ended-clause-came
returns-in-Ok-ended-clause-came g c = λ empty.
    let x : Option Sight = g.L.Link.sight c.args.link.now in
    let y : Option Sight = g.L.Link.sight c.take.new.self in
    let t : Told (Takes End c.take.new.buf) x y = rw c.in-Ok-End.field-0-is at c.in-Ok-End.ensures.taken in
    takes_last c.args.brief _ _ tt (takes_end (Ok tt) c.args.brief c.args.rebuild.now x y _ _ (g.K.Sink.seen c.args.sink.now) c.take.new.buf empty t c.in-Ok-End.ensures.cause.later c.in-Ok-ended.ensures)

pub returns-in-Err-ended-clause-came : goal.returns-in-Err-ended-clause-came
returns-in-Err-ended-clause-came g c = λ empty.
    let x : Option Sight = g.L.Link.sight c.args.link.now in
    let y : Option Sight = g.L.Link.sight c.take.new.self in
    let t : Told (Takes End c.take.new.buf) x y = rw c.in-Ok-End.field-0-is at c.in-Ok-End.ensures.taken in
    takes_cut c.args.brief _ _ c.in-Err-ended.fault (takes_end (Err c.in-Err-ended.fault) c.args.brief c.args.rebuild.now x y _ _ (g.K.Sink.seen c.args.sink.now) c.take.new.buf empty t c.in-Ok-End.ensures.cause.later c.in-Err-ended.ensures)

pub returns-in-Err-clause-came : goal.returns-in-Err-clause-came
returns-in-Err-clause-came g c = λ empty host old goes.
    let x : Option Sight = g.L.Link.sight c.args.link.now in
    let y : Option Sight = g.L.Link.sight c.take.new.self in
    link_fails _ (opened_with host c.args.brief old) c.args.rebuild.now x y _ _ (g.K.Sink.seen c.args.sink.now) _ goes c.in-Err.ensures.kept c.in-Err.ensures.cause.later c.in-Err.ensures.cause.failed
