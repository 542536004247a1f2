pub mod Playback
pub mod Written
pub mod Settling
pub mod Claims
