-- Words that only the crate's own clauses reach.
pub mod Parts
pub mod Steps
pub mod Service
pub mod Visits
pub mod Posts
