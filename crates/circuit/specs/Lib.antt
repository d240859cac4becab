pub mod Gates
pub mod Printed
