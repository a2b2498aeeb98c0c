pub mod Wire
pub mod Cut
pub mod Talk
pub mod Whole
pub mod Stream
pub mod Held
pub mod steps
