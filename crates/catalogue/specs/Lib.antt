pub mod Catalogue
pub mod Names
