-- Words of private clauses.
pub mod Bodies
pub mod Frames
pub mod Members
pub mod Placed
pub mod Sent
pub mod Spelled
pub mod Tokens
