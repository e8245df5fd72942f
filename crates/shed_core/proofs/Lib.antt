pub mod Stations
pub mod Worlds
pub mod Gather
