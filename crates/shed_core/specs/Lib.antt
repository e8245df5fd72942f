pub mod Of
pub mod Checks
