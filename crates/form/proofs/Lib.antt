pub mod Merges
pub mod Below
pub mod Sums
pub mod Values
