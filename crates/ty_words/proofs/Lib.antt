pub mod Modes
pub mod Options
pub mod Parsing
pub mod Fits
