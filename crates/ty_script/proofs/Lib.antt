mod FeedLines
pub mod Fitting
mod Said
mod Words
