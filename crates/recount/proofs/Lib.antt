pub mod Rounds
pub mod OwnBook
