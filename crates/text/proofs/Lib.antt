pub mod Limits
pub mod Numerals
pub mod Point
pub mod Readings
pub mod RoundTrip
pub mod Single
pub mod Steps
pub mod Texts
