-- Words of private clauses.
pub mod Hearing
pub mod Held
