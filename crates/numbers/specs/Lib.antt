pub mod Refusals
pub mod Numbers
pub mod Promise
