pub mod Grows
pub mod Counts
pub mod Questions
pub mod Lookups
pub mod Proper
pub mod Kept
pub mod ChainValues
pub mod Theorem
