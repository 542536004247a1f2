pub mod Characters
pub mod Numbers
pub mod Reading
pub mod Writing
pub mod Demands
