-- Words that only private clauses need.
pub mod Code
pub mod Stack
pub mod Tree
