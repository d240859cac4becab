pub mod Runs
pub mod Packing
