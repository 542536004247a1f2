pub mod Laws
pub mod Acts
pub mod Uses
pub mod Identifier
pub mod Single
