pub mod Making
pub mod Bytes
pub mod Fitting
pub mod Records
pub mod Blocks
pub mod RecordLaws
pub mod Limits
