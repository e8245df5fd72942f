pub mod Third
pub mod Moves
