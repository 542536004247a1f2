pub mod Phases
pub mod Decision
pub mod Limits
