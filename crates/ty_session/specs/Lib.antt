pub mod Client
pub mod Outcomes
pub mod Held
pub mod Story
pub mod Times
pub mod steps
