-- Words of private clauses.
pub mod Given
pub mod Links
pub mod Pieces
pub mod Stage
