-- Words of private clauses.
pub mod Bits
pub mod Segments
pub mod Units
