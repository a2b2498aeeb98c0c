pub mod Plans
pub mod Scripts
pub mod Parts
pub mod Summaries
