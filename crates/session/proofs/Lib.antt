pub mod Fitting
pub mod Grants
pub mod Steadiness
