pub mod Stations
pub mod Laws
