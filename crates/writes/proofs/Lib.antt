pub mod Data
pub mod Given
pub mod Faults
pub mod Stored
pub mod ReadBack
pub mod Single
