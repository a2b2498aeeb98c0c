pub mod Addresses
pub mod Cidrs
pub mod Ports
pub mod Grammar
