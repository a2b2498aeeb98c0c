pub mod Items
pub mod Keys
pub mod Kinds
pub mod Labels
pub mod Nets
pub mod PolicyRules
