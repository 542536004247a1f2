pub mod Frames
pub mod Walked
pub mod Played
pub mod Claims
pub mod Single
