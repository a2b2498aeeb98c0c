use Rattle.std.proofs.Common.{refl}
use Rattle.ty_intake.specs.Lines.{ended_now}
use Rattle.ty_top.proofs.StreamReading.{owed_of, end_said, end_short}
use Rattle.ty_top.proofs.stream.finish.Goals as goal

pub returns-in_default-clause-read : goal.returns-in_default-clause-read
returns-in_default-clause-read g c = λ feed r. end_short c.args.from feed (g.K.Sink.seen c.args.sink.now)

pub publish_fed-requires : goal.publish_fed-requires
publish_fed-requires g c =
    let feed = c.requires.0 in
    let r = c.requires.1 in
    owed_of c.args.crumb.now feed (ended_now feed) c.in-Ok.fed.closed r.crumb_of (c.in-Ok.ensures.closed feed r.stands) c.in-Ok.ensures.fits

pub returns-clause-read : goal.returns-clause-read
returns-clause-read g c = λ feed r.
    end_said c.args.from feed (ended_now feed) c.in-Ok.fed.closed (c.in-Ok.ensures.closed feed r.stands) c.args.crumb.now c.publish_fed.new.crumb r.crumb_of c.in-Ok.ensures.fits
    (g.K.Sink.seen c.args.sink.now) (g.K.Sink.seen c.publish_fed.new.sink)
    c.publish_fed.result c.in-Ok.fed.fault refl refl (c.in-Ok.ensures.fault feed r.stands) c.publish_fed.ensures.published
