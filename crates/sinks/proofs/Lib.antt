pub mod Chains
pub mod Judged
