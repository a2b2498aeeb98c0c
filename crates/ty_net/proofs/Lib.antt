pub mod Grammars
pub mod Groups
pub mod Halves
pub mod Networks
pub mod Octets
pub mod Pieces
pub mod Places
pub mod Readings
