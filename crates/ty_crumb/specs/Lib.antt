pub mod Batches
pub mod Crumbs
pub mod steps
