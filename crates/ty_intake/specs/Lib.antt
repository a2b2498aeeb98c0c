pub mod Batches
pub mod Faults
pub mod Held
pub mod Line
pub mod Lines
pub mod steps
