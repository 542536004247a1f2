pub mod Faults
pub mod Holding
pub mod Frames
pub mod Demands
pub mod Alarms
pub mod Outcomes
pub mod Single
