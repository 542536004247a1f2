pub mod Parts
pub mod Packing
pub mod Carries
pub mod Single
