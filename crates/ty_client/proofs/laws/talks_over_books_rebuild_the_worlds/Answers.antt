use Rattle.ty_client.proofs.Books.{front_with_pings, whole_with_pings}
use Rattle.ty_client.proofs.laws.talks_over_books_rebuild_the_worlds.Goals as goal

pub returns : goal.returns
returns c = record { front = front_with_pings; whole = whole_with_pings }
