pub mod Fans
pub mod Spelled
pub mod Spellers
pub mod Spelling
