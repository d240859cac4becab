pub mod Answers
pub mod Building
pub mod Gates
pub mod Headers
pub mod Reading
pub mod Refusals
pub mod Texts
pub mod Wires
