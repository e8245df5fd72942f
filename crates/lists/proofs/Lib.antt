pub mod Options
pub mod Tables
pub mod Counting
pub mod Places
pub mod Results
pub mod Made
