pub mod Settings
pub mod Point
