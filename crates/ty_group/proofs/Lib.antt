pub mod Filled
pub mod Fronts
pub mod Pieces
pub mod Texts
