-- Words that only the crate's own clauses reach.
pub mod Blocks
pub mod Histories
pub mod Holds
pub mod Replies
pub mod Rights
pub mod Rules
