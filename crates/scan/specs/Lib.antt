pub mod Cuts
pub mod Numbers
pub mod Parts
pub mod Tokens
