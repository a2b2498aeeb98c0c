pub mod Faults
pub mod Forms
pub mod Grammar
pub mod Nets
pub mod Plurals
pub mod steps
