pub mod Answered
pub mod Listed
pub mod Openings
pub mod Played
