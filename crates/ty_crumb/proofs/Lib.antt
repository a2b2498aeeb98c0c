pub mod Applied
pub mod Book
pub mod Crumbs
pub mod Drained
pub mod Following
pub mod Limits
pub mod PendingChanges
pub mod Spent
