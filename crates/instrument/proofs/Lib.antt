pub mod Heard
pub mod Single
