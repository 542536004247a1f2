pub mod Register
pub mod Faults
