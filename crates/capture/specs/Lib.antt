pub mod Format
pub mod Back
pub mod Recorded
pub mod Show
pub mod Claims
