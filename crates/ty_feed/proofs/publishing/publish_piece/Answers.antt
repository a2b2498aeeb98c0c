use Rattle.std.proofs.Common.{subst, sym}
use Rattle.std.specs.Prelude.{Ok, Err}
use Rattle.ty_intake.specs.Lines.{fed_with}
use Rattle.ty_feed.specs.steps.Reading.{AreDue}
use Rattle.ty_feed.proofs.Books.{published_as}
use Rattle.ty_feed.proofs.Reading.{due_of, all_published, some_published, piece_short, piece_stops, piece_read}
use Rattle.ty_feed.proofs.publishing.publish_piece.Goals as goal

pub returns-in_default : goal.returns-in_default
returns-in_default g c = λ feed r. piece_short c.feed.new.self c.args.publisher.now feed c.args.piece.now r.book_of

pub publish_batches-requires : goal.publish_batches-requires
publish_batches-requires g c =
    let feed = c.requires.0 in
    let r = c.requires.1 in
    subst (AreDue c.args.publisher.now) (sym c.as_slice.ensures)
    (due_of c.args.publisher.now feed (fed_with feed c.args.piece.now) c.in-Ok.fed.closed r.book_of (c.in-Ok.ensures.closed feed r.stands) c.in-Ok.ensures.fits)

pub returns-in_default-publish_batches : goal.returns-in_default-publish_batches
returns-in_default-publish_batches g c = λ feed r.
    piece_stops c.feed.new.self c.publish_batches.new.publisher (fed_with feed c.args.piece.now)
    (some_published c.args.publisher.now feed (fed_with feed c.args.piece.now) c.in-Ok.fed.closed r.book_of (c.in-Ok.ensures.closed feed r.stands) c.in-Ok.ensures.fits c.publish_batches.new.publisher _
    (published_as (Err _) c.args.publisher.now c.publish_batches.new.publisher c.as_slice.result.now c.in-Ok.fed.closed c.as_slice.ensures c.in_default-publish_batches.ensures))

pub returns : goal.returns
returns g c = λ feed r.
    piece_read c.goes_on.result c.in-Ok.fed.fault c.feed.new.self c.publish_batches.new.publisher (fed_with feed c.args.piece.now) c.goes_on.ensures (c.in-Ok.ensures.stands feed r.stands) (c.in-Ok.ensures.fault feed r.stands)
    (all_published c.args.publisher.now feed (fed_with feed c.args.piece.now) c.in-Ok.fed.closed r.book_of (c.in-Ok.ensures.closed feed r.stands) c.in-Ok.ensures.fits c.publish_batches.new.publisher
    (published_as (Ok tt) c.args.publisher.now c.publish_batches.new.publisher c.as_slice.result.now c.in-Ok.fed.closed c.as_slice.ensures c.in-Ok-publish_batches.ensures))
