pub mod Publishing
pub mod Sent
pub mod Shown
