pub mod Faults
pub mod Answered
pub mod Demands
pub mod Single
