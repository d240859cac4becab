pub mod Questions
pub mod Meaning
pub mod Laws
pub mod Chain
pub mod Sending
