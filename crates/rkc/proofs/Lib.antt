pub mod Used
pub mod Cases
pub mod Limits
pub mod Single
