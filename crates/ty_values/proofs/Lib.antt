pub mod Limits
pub mod OtherKinds
pub mod Rows
pub mod SmallItems
