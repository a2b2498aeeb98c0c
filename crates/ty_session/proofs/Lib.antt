pub mod Hearing
pub mod Marks
pub mod Held
pub mod Talks
pub mod Snapshots
