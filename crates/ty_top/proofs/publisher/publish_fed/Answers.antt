use Rattle.std.specs.Prelude.{Ok, Err}
use Rattle.ty_top.specs.declared.publisher.Unwritten.TheVariants.{Sink as NoRoom, Memory as Short}
use Rattle.ty_top.proofs.Published.{published_as, published_err, published_fed, published_later}
use Rattle.ty_top.proofs.publisher.publish_fed.Goals as goal

pub returns-in-Ok-clause-published : goal.returns-in-Ok-clause-published
returns-in-Ok-clause-published g c = λ o.
    published_fed c.go_on.result c.args.from c.args.fed.fault c.publish_all.new.crumb _ _ _ _ c.go_on.ensures
    (published_as (Ok tt) c.args.from c.args.crumb.now c.publish_all.new.crumb c.into_vec.result.items c.args.fed.closed _ _ c.into_vec.ensures c.in-Ok.ensures o)

pub returns-in-Ok-clause-later : goal.returns-in-Ok-clause-later
returns-in-Ok-clause-later g c =
    published_later (Ok tt) c.args.from c.publish_all.new.crumb _ _ _ _
    (published_as (Ok tt) c.args.from c.args.crumb.now c.publish_all.new.crumb c.into_vec.result.items c.args.fed.closed _ _ c.into_vec.ensures c.in-Ok.ensures c.requires)

pub returns-in-Err-Sink-clause-published : goal.returns-in-Err-Sink-clause-published
returns-in-Err-Sink-clause-published g c = λ o.
    published_err _ NoRoom c.args.from c.args.crumb.now c.publish_all.new.crumb c.into_vec.result.items c.args.fed.closed _ _ c.in-Err-Sink.field-0-is c.into_vec.ensures c.in-Err-Sink.ensures o

pub returns-in-Err-Sink-clause-later : goal.returns-in-Err-Sink-clause-later
returns-in-Err-Sink-clause-later g c =
    published_later (Err NoRoom) c.args.from c.publish_all.new.crumb _ _ _ _
    (published_err _ NoRoom c.args.from c.args.crumb.now c.publish_all.new.crumb c.into_vec.result.items c.args.fed.closed _ _ c.in-Err-Sink.field-0-is c.into_vec.ensures c.in-Err-Sink.ensures c.requires)

pub returns-in-Err-Memory-clause-published : goal.returns-in-Err-Memory-clause-published
returns-in-Err-Memory-clause-published g c = λ o.
    published_err _ Short c.args.from c.args.crumb.now c.publish_all.new.crumb c.into_vec.result.items c.args.fed.closed _ _ c.in-Err-Memory.field-0-is c.into_vec.ensures c.in-Err-Memory.ensures o

pub returns-in-Err-Memory-clause-later : goal.returns-in-Err-Memory-clause-later
returns-in-Err-Memory-clause-later g c =
    published_later (Err Short) c.args.from c.publish_all.new.crumb _ _ _ _
    (published_err _ Short c.args.from c.args.crumb.now c.publish_all.new.crumb c.into_vec.result.items c.args.fed.closed _ _ c.in-Err-Memory.field-0-is c.into_vec.ensures c.in-Err-Memory.ensures c.requires)
