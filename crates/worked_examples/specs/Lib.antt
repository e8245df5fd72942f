pub mod Rules
pub mod Words
pub mod Calls
pub mod Texts
pub mod Numbers
