pub mod Settings
pub mod Accepted
pub mod Point
pub mod Single
