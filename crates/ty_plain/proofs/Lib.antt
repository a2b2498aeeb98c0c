pub mod Books
pub mod Firsts
pub mod Steps
pub mod Worlds
