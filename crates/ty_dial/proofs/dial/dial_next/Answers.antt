use Rattle.std.proofs.Common.{◌∙◌, arith}
use Rattle.ty_dial.specs.Dialled.{dialler}
use Rattle.ty_dial.proofs.Dialling.{dials_one}
use Rattle.ty_dial.proofs.dial.dial_next.Goals as goal

pub returns-in-Ok-Link-clause-came : goal.returns-in-Ok-Link-clause-came
returns-in-Ok-Link-clause-came g c =
    let D = g.D.Door in
    let old = dialler (D.sight c.args.dial.now) (D.gave c.args.dial.now) (D.got c.args.dial.now) (D.count c.args.dial.now) (g.K.Sink.seen c.args.sink.now) in
    let new = dialler (D.sight c.back.new.self) (D.gave c.back.new.self) (D.got c.back.new.self) (D.count c.back.new.self) (g.K.Sink.seen c.follow_dialled-answer.new.sink) in
    let told = rw c.in-Ok-Link.field-0-is at c.in-Ok-Link.ensures.told in
    let gave = rw c.in-Ok-Link.field-0-is at c.in-Ok-Link.ensures.gave in
    dials_one g.D.Link.Link.sight g.D.Link.Link.count c.args.host.now c.args.brief c.follow_dialled-answer.result c.in-Ok-Link.link c.follow_dialled-answer.new.link old new
    (D.sight c.accept.new.self) c.follow_dialled-answer.ensures told c.back.ensures.told
    (omega (arith, c.back.ensures.got, c.in-Ok-Link.ensures.got)) (c.back.ensures.gave ∙ gave)
