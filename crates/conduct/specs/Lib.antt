pub mod Conduct
