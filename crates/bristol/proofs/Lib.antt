pub mod Builds
pub mod Gates
pub mod Lengths
pub mod Marks
pub mod Sums
