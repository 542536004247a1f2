pub mod Quotient
pub mod Closest
pub mod Patterns
pub mod Rounded
pub mod Nearest
pub mod Examples
pub mod Single
