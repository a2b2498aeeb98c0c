use Rattle.std.proofs.Common.{subst, sym}
use Rattle.std.specs.Prelude.{Ok, Err}
use Rattle.ty_intake.specs.Lines.{ended_now}
use Rattle.ty_feed.specs.steps.Reading.{AreDue}
use Rattle.ty_feed.proofs.Books.{published_as}
use Rattle.ty_feed.proofs.Reading.{due_of, all_published, some_published, end_short, end_stops, end_read}
use Rattle.ty_feed.proofs.publishing.finish.Goals as goal

pub returns-in_default : goal.returns-in_default
returns-in_default g c = λ feed r. end_short c.args.publisher.now feed r.book_of

pub publish_batches-requires : goal.publish_batches-requires
publish_batches-requires g c =
    let feed = c.requires.0 in
    let r = c.requires.1 in
    subst (AreDue c.args.publisher.now) (sym c.as_slice.ensures)
    (due_of c.args.publisher.now feed (ended_now feed) c.in-Ok.fed.closed r.book_of (c.in-Ok.ensures.closed feed r.stands) c.in-Ok.ensures.fits)

pub returns-in_default-publish_batches : goal.returns-in_default-publish_batches
returns-in_default-publish_batches g c = λ feed r.
    end_stops c.publish_batches.new.publisher feed
    (some_published c.args.publisher.now feed (ended_now feed) c.in-Ok.fed.closed r.book_of (c.in-Ok.ensures.closed feed r.stands) c.in-Ok.ensures.fits c.publish_batches.new.publisher _
    (published_as (Err _) c.args.publisher.now c.publish_batches.new.publisher c.as_slice.result.now c.in-Ok.fed.closed c.as_slice.ensures c.in_default-publish_batches.ensures))

pub returns : goal.returns
returns g c = λ feed r.
    end_read c.ends_by.result c.in-Ok.fed.fault c.publish_batches.new.publisher feed c.ends_by.ensures (c.in-Ok.ensures.fault feed r.stands)
    (all_published c.args.publisher.now feed (ended_now feed) c.in-Ok.fed.closed r.book_of (c.in-Ok.ensures.closed feed r.stands) c.in-Ok.ensures.fits c.publish_batches.new.publisher
    (published_as (Ok tt) c.args.publisher.now c.publish_batches.new.publisher c.as_slice.result.now c.in-Ok.fed.closed c.as_slice.ensures c.in-Ok-publish_batches.ensures))
