pub mod Dialled
pub mod steps
