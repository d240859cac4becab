pub mod Ending
pub mod Granted
pub mod Questions
pub mod State
