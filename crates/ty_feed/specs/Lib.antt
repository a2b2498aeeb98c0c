pub mod Publishing
pub mod steps
