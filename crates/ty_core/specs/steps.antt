-- Words of private clauses.
pub mod Chains
pub mod Links
pub mod Runs
pub mod Slots
pub mod Scripts
