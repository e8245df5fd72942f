pub mod Computed
pub mod Hearing
pub mod Planned
pub mod Settled
