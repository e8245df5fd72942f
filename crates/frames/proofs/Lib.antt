pub mod RoundTrip
pub mod Entries
pub mod Sets
pub mod Indexed
pub mod Added
pub mod Laws
