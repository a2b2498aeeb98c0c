-- Words that only private clauses need.
pub mod Applied
pub mod Deltas
pub mod Following
pub mod Spent
