pub mod Laws
pub mod Parity
pub mod Single
