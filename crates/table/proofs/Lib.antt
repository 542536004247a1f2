pub mod Alarms
pub mod Decimals
pub mod Turns
pub mod Laws
pub mod Single
