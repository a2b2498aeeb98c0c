pub mod Dialling
pub mod Following
