pub mod Fits
pub mod Script
