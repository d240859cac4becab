pub mod Wires
pub mod Drafts
pub mod Networks
pub mod Values
