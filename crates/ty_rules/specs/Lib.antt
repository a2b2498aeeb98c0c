pub mod Checks
pub mod Parts
pub mod Tests
pub mod Texts
pub mod Tree
