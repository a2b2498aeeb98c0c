pub mod Cli
pub mod Fitting
pub mod Given
pub mod Words
