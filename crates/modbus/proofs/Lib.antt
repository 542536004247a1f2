pub mod Stores
pub mod Acting
pub mod Laws
pub mod Single
