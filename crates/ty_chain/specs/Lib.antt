pub mod Following
pub mod Publishing
pub mod Shown
pub mod steps
