pub mod Ascending
pub mod Changes
pub mod Fresh
pub mod Heights
pub mod Nodes
pub mod Shape
pub mod Stack
pub mod steps
