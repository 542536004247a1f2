pub mod Hexadecimal
pub mod Line
pub mod Promise
pub mod Claims
