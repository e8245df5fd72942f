pub mod Faults
pub mod Judging
pub mod Reading
pub mod Writing
