pub mod Adding
pub mod Appends
pub mod Undoing
