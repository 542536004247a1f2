pub mod Parts
pub mod Walk
pub mod ByNumber
pub mod Recorded
pub mod Claims
pub mod Single
