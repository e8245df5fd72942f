pub mod Frame
pub mod Pool
pub mod Book
pub mod Index
pub mod Laws
