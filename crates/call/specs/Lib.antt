pub mod Call
pub mod Promise
pub mod Demands
