use Rattle.ty_crumb.proofs.Book.{the_book_grows}
use Rattle.ty_crumb.proofs.laws.the_book_grows_by_the_next_batch.Goals as goal

pub returns : goal.returns
returns c = the_book_grows
