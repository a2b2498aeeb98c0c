-- Words of private clauses.
pub mod Forms
pub mod Returns
pub mod Tokens
