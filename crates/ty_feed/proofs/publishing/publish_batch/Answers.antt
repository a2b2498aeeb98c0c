use Rattle.ty_feed.proofs.Books.{issued_more}
use Rattle.ty_feed.proofs.publishing.publish_batch.Goals as goal

pub returns-in-Ok-clause-published : goal.returns-in-Ok-clause-published
returns-in-Ok-clause-published g c = λ before closed next k.
    issued_more c.args.publisher.now c.publish.new.self before c.args.batch.now.items c.as_slice.result.now c.as_slice.ensures closed next k c.in-Ok.ensures.cut c.in-Ok.ensures.book
