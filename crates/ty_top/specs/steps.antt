-- Words of private clauses.
pub mod Publisher
pub mod Stream
