pub mod Registers
pub mod Faults
pub mod Single
