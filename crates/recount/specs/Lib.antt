pub mod Recount
pub mod Agreeing
