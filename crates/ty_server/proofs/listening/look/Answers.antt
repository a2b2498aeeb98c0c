use Rattle.ty_base.specs.declared.link.Took.{Took}
use Rattle.ty_base.specs.declared.link.Took.TheVariants.{Bytes, Quiet}
use Rattle.ty_server.proofs.Taking.{exchanged_taken, less_told, bytes_in}
use Rattle.ty_server.proofs.Working.{keeps_looked, looked, part_heard}
use Rattle.ty_server.proofs.listening.look.Goals as goal

pub returns-in-Ok-Bytes-clause-part : goal.returns-in-Ok-Bytes-clause-part
returns-in-Ok-Bytes-clause-part g c =
    let t : Took = Bytes c.in-Ok-Bytes.count in
    let h = rw c.in-Ok-Bytes.field-0-is at c.in-Ok-Bytes.ensures.taken in
    part_heard c.args.now (bytes_in t c.take.new.buf) _ _ c.args.session.now c.hear.new.session c.hear.result
    (exchanged_taken t c.take.new.buf (g.L.Link.sight c.args.link.now) (g.L.Link.sight c.take.new.self) _ _ h c.in-Ok-Bytes.ensures.cause.later) c.hear.ensures.works

pub returns-in-Ok-Bytes-clause-progress : goal.returns-in-Ok-Bytes-clause-progress
returns-in-Ok-Bytes-clause-progress g c = less_told c.in-Ok-Bytes.field-0 c.take.new.buf (g.L.Link.sight c.args.link.now) (g.L.Link.sight c.take.new.self) _ _ c.in-Ok-Bytes.ensures.bound c.in-Ok-Bytes.ensures.taken

pub returns-in-Ok-Quiet-clause-part : goal.returns-in-Ok-Quiet-clause-part
returns-in-Ok-Quiet-clause-part g c =
    let h = rw c.in-Ok-Quiet.field-0-is at c.in-Ok-Quiet.ensures.taken in
    part_heard c.args.now (bytes_in Quiet c.take.new.buf) _ _ c.args.session.now c.quiet.new.self _
    (exchanged_taken Quiet c.take.new.buf (g.L.Link.sight c.args.link.now) (g.L.Link.sight c.take.new.self) _ _ h c.in-Ok-Quiet.ensures.cause.later)
    (looked {A = Unit {0}} c.args.now c.args.session.now c.quiet.new.self tt c.quiet.ensures.looks)

pub returns-in-Ok-Quiet-clause-progress : goal.returns-in-Ok-Quiet-clause-progress
returns-in-Ok-Quiet-clause-progress g c = less_told c.in-Ok-Quiet.field-0 c.take.new.buf (g.L.Link.sight c.args.link.now) (g.L.Link.sight c.take.new.self) _ _ c.in-Ok-Quiet.ensures.bound c.in-Ok-Quiet.ensures.taken

pub returns-in-Ok-Quiet-clause-kept : goal.returns-in-Ok-Quiet-clause-kept
returns-in-Ok-Quiet-clause-kept g c = keeps_looked c.args.now c.args.session.now c.quiet.new.self c.quiet.ensures.looks
