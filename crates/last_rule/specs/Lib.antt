pub mod Last
pub mod Moves
