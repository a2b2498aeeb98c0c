-- Words that only the crate's own clauses reach.
pub mod Backs
pub mod Places
