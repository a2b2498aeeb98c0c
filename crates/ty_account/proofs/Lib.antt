mod Blocks
mod Chains
mod Crossing
mod Histories
mod Pairs
pub mod Prefixes
mod Rights
mod Rows
mod Rules
pub mod Sent
mod Steps
mod Walking
