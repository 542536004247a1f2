pub mod EachReply
pub mod Fits
pub mod Given
pub mod Demands
pub mod PollingOn
pub mod Point
