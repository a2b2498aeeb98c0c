-- Words of private clauses.
pub mod Plans
