pub mod First
pub mod Walked
pub mod Frames
pub mod Front
pub mod Claims
pub mod Single
