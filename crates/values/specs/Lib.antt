pub mod Rings
pub mod Bits
pub mod Words
