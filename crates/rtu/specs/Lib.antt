pub mod Frame
pub mod Promise
pub mod Demands
