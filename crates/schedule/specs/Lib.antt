pub mod Program
pub mod Running
